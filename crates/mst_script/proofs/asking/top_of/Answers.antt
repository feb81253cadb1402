use Rattle.mst_script.proofs.Names.{◌≡◌, ◌∙◌, ◌<◌, ◌^◌, length, sym, ap, inl, rules, map_get, tree, encode_lower, line_of}
use Rattle.mst_node.specs.Trail.{answer_text}
use Rattle.mst_script.proofs.ProofTops.{no_top, some_top}
use Rattle.mst_script.proofs.asking.top_of.Goals as goal

pub returns-in_default : goal.returns-in_default
returns-in_default g c = let proof = c.args.proof.now in
    let small : length proof < 2 ^ 32 = c.requires.short in
    λ f m k is. inl
    (ap line_of (sym
    (no_top f (answer_text f (map_get m k)) k (tree f m) proof is small
    c.in_default.ensures.none)))

pub returns-in-Ok : goal.returns-in-Ok
returns-in-Ok g c = let proof = c.args.proof.now in
    let small : length proof < 2 ^ 32 = c.requires.short in
    let same : c.in-Ok.text.items ≡ c.in-Some.top.now = search rules in
    λ f m k is. inl
    (ap (λ l. line_of (encode_lower l)) same
    ∙ ap line_of
    (sym (some_top f (answer_text f (map_get m k)) k (tree f m) proof c.in-Some.top.now is small
    c.in-Some.ensures.text)))

pub returns-in-Err : goal.returns-in-Err
returns-in-Err g c = search rules
