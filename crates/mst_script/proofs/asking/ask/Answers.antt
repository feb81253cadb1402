use Rattle.mst_script.proofs.Names.{◌≡◌, [], rules, refl, sym, ap, ◌∙◌, option_copied, Put, Remove, Migrate, Get, Next, Root, Unpin, Rows, map_get, Format, line_of, fault_words, value_words, text_of, false≢true, is_pin}
use Rattle.mst_key.specs.declared.history.Change.TheVariants as change
use Rattle.mst_requests.specs.declared.request.Command.TheVariants as ask
use Rattle.mst_requests.specs.declared.request.Fault.TheVariants.{Pinning}
use Rattle.mst_key.specs.Map.{map_next}
use Rattle.mst_node.specs.Text.{root}
use Rattle.mst_key.specs.Digits.{digits_of}
use Rattle.mst_requests.specs.Texts.{found_words, format_words}
use Rattle.mst_script.proofs.Calling.{asked, unmoved, written, migrated, read_found, counted}
use Rattle.mst_script.proofs.asking.ask.Goals as goal

pub returns-in-Put : goal.returns-in-Put
returns-in-Put g c = let k = c.in-Put.key in let v = c.in-Put.value in let p = c.args.pass.now in
    let q = c.try_put.new.self in
    asked c.args.command.now (Put k v) p q (text_of c.write_answer_of.result) c.in-Put.is
    (written (change.Put k v) p q c.try_put.result c.write_answer_of.result
    c.write_answer_of.ensures c.try_put.ensures.ok c.try_put.ensures.err)

pub returns-in-Remove : goal.returns-in-Remove
returns-in-Remove g c = let k = c.in-Remove.key in let p = c.args.pass.now in let q =
    c.try_remove.new.self in
    asked c.args.command.now (Remove k) p q (text_of c.write_answer_of-in-Remove.result)
    c.in-Remove.is
    (written (change.Remove k) p q c.try_remove.result c.write_answer_of-in-Remove.result
    c.write_answer_of-in-Remove.ensures c.try_remove.ensures.ok c.try_remove.ensures.err)

pub returns-in-Migrate : goal.returns-in-Migrate
returns-in-Migrate g c = let to = c.in-Migrate.to in let p = c.args.pass.now in let q =
    c.try_migrate.new.self in
    asked c.args.command.now (Migrate to) p q (text_of c.migration_answer_of.result) c.in-Migrate.is
    (migrated to p q c.try_migrate.result c.migration_answer_of.result c.migration_answer_of.ensures
    c.try_migrate.ensures.ok c.try_migrate.ensures.err)

pub returns-in-Format : goal.returns-in-Format
returns-in-Format g c = let p = c.args.pass.now in let q = c.format.new.self in
    asked c.args.command.now ask.Format p q (line_of (format_words c.format.result)) c.in-Format.is
    (read_found (λ (f : Format) _. f) (λ x. line_of (format_words x))
    (line_of (format_words c.format.result)) p q c.format.result c.format.ensures.answers refl)

pub returns-in-Get : goal.returns-in-Get
returns-in-Get g c = let k = c.in-Get.key in let p = c.args.pass.now in let q = c.get.new.self in
    asked c.args.command.now (Get k) p q (line_of (value_words c.get.result)) c.in-Get.is
    (read_found (λ _ m. map_get m k) (λ x. line_of (value_words x))
    (line_of (value_words c.get.result)) p q c.get.result c.get.ensures.answers refl)

pub returns-in-Next : goal.returns-in-Next
returns-in-Next g c = let p = c.args.pass.now in let q = c.next.new.self in
    let same : option_copied c.as_ref.result ≡ c.in-Next.bound = search rules in
    asked c.args.command.now (Next (option_copied c.as_ref.result)) p q
    (line_of (found_words c.next.result)) (c.in-Next.is ∙ ap Next (sym same))
    (read_found (λ _ m. map_next m (option_copied c.as_ref.result)) (λ x. line_of (found_words x))
    (line_of (found_words c.next.result)) p q c.next.result c.next.ensures.answers refl)

pub returns-in-Root : goal.returns-in-Root
returns-in-Root g c = let p = c.args.pass.now in let q = c.root.new.self in
    asked c.args.command.now Root p q (line_of (digits_of c.root.result)) c.in-Root.is
    (read_found root (λ x. line_of (digits_of x)) (line_of (digits_of c.root.result)) p q
    c.root.result c.root.ensures.answers refl)

pub returns-in-Rows : goal.returns-in-Rows
returns-in-Rows g c = let p = c.args.pass.now in let q = c.rows.new.self in
    asked c.args.command.now Rows p q (text_of c.rows_answer_of.result) c.in-Rows.is
    (counted p q c.rows.result c.rows_answer_of.result c.rows_answer_of.ensures c.rows.ensures.looks
    c.rows.ensures.some c.rows.ensures.alone c.rows.ensures.busy)

pub returns-in-Batch : goal.returns-in-Batch
returns-in-Batch g c = search rules

pub returns-in-Range : goal.returns-in-Range
returns-in-Range g c = search rules

pub returns-in-Node : goal.returns-in-Node
returns-in-Node g c = search rules

pub returns-in-Prove : goal.returns-in-Prove
returns-in-Prove g c = search rules

pub returns-in-Pin : goal.returns-in-Pin
returns-in-Pin g c = absurd (false≢true (sym c.requires.other ∙ ap is_pin c.in-Pin.is))

pub returns-in-Unpin : goal.returns-in-Unpin
returns-in-Unpin g c = let p = c.args.pass.now in
    asked c.args.command.now Unpin p p (line_of (fault_words Pinning)) c.in-Unpin.is
    (p.seen, [], unmoved p, (refl, refl))
