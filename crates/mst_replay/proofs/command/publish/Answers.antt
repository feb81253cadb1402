use Rattle.mst_replay.proofs.Names.{◌≡◌, ℕ, ◌<◌, List, ◌∷◌, ◌++◌, Some, None, length, ◌∙◌, sym, ap, arith, codes, decimal, rows_text}
use Rattle.mst_replay.proofs.Numbers.{strip_some, cancel}
use Rattle.mst_replay.proofs.Blanks.{front_of, fields_join, publish_fields}
use Rattle.mst_replay.proofs.command.publish.Goals as goal

pub returns-then-blank-fields-clause-only : goal.returns-then-blank-fields-clause-only
returns-then-blank-fields-clause-only c = λ r rows s. let fields : List ℕ =
    c.in_ok-fields.fields.now in let b = c.first_blank-blank in
    let parts = strip_some c.args.line.now (codes "publish ") c.strip_prefix.result
    c.strip_prefix.ensures.cases c.in_ok-fields.fields c.in_ok-fields.was in
    let is = cancel (codes "publish ") fields (decimal r ++ 32 ∷ rows_text rows)
    (sym parts ∙ s.is_text ∙ publish_fields r (rows_text rows)) in
    let h = front_of fields r (rows_text rows) b.result s.in_range.0 is b.ensures.before
    b.ensures.found in let l = h.0 in absurd (omega arith)

pub returns-in_err-into-clause-only : goal.returns-in_err-into-clause-only
returns-in_err-into-clause-only c = λ r rows s. let fields : List ℕ = c.in_ok-fields.fields.now in
    let b = c.first_blank-blank in
    let parts = strip_some c.args.line.now (codes "publish ") c.strip_prefix.result
    c.strip_prefix.ensures.cases c.in_ok-fields.fields c.in_ok-fields.was in
    let is = cancel (codes "publish ") fields (decimal r ++ 32 ∷ rows_text rows)
    (sym parts ∙ s.is_text ∙ publish_fields r (rows_text rows)) in
    let h = front_of fields r (rows_text rows) b.result s.in_range.0 is b.ensures.before
    b.ensures.found in
    absurd (let f : None ≡ Some r = c.in_err-into.ensures.only r s.in_range.0 h.1 in cc)

pub returns-in_err-rows-clause-only : goal.returns-in_err-rows-clause-only
returns-in_err-rows-clause-only c = λ r rows s. let fields : List ℕ = c.in_ok-fields.fields.now in
    let b = c.first_blank-blank in
    let parts = strip_some c.args.line.now (codes "publish ") c.strip_prefix.result
    c.strip_prefix.ensures.cases c.in_ok-fields.fields c.in_ok-fields.was in
    let is = cancel (codes "publish ") fields (decimal r ++ 32 ∷ rows_text rows)
    (sym parts ∙ s.is_text ∙ publish_fields r (rows_text rows)) in
    let h = front_of fields r (rows_text rows) b.result s.in_range.0 is b.ensures.before
    b.ensures.found in
    absurd (let f : None ≡ Some rows = c.in_err-rows.ensures.only rows s.in_range.1 h.2 in cc)

pub returns-clause-some : goal.returns-clause-some
returns-clause-some c = let fields : List ℕ = c.in_ok-fields.fields.now in let b =
    c.first_blank-blank in
    let parts = strip_some c.args.line.now (codes "publish ") c.strip_prefix.result
    c.strip_prefix.ensures.cases c.in_ok-fields.fields c.in_ok-fields.was in
    let within = b.ensures.within in let inside : b.result < length fields = omega arith in
    let joined = fields_join fields b.result c.in_ok-into.into (rows_text c.in_ok-rows.rows) inside
    (b.ensures.found inside) c.in_ok-into.ensures.some c.in_ok-rows.ensures.some in
    record {
      in_range = (omega arith, omega arith);
      is_text =
          parts ∙ ap (λ (z : List ℕ). codes "publish " ++ z) joined
          ∙ sym (publish_fields c.in_ok-into.into (rows_text c.in_ok-rows.rows));
    }

pub returns-clause-only : goal.returns-clause-only
returns-clause-only c = λ r rows s. let fields : List ℕ = c.in_ok-fields.fields.now in let b =
    c.first_blank-blank in
    let parts = strip_some c.args.line.now (codes "publish ") c.strip_prefix.result
    c.strip_prefix.ensures.cases c.in_ok-fields.fields c.in_ok-fields.was in
    let is = cancel (codes "publish ") fields (decimal r ++ 32 ∷ rows_text rows)
    (sym parts ∙ s.is_text ∙ publish_fields r (rows_text rows)) in
    let h = front_of fields r (rows_text rows) b.result s.in_range.0 is b.ensures.before
    b.ensures.found in
    let x : Some c.in_ok-into.into ≡ Some r = c.in_ok-into.ensures.only r s.in_range.0 h.1 in
    let y : Some c.in_ok-rows.rows ≡ Some rows = c.in_ok-rows.ensures.only rows s.in_range.1 h.2 in
    let p : c.in_ok-into.into ≡ r = cc in let q : c.in_ok-rows.rows ≡ rows =
    cc in λ i. Some (p i, q i)
