-- Edits that are made where there is no pair, one after another.
use Rattle.mst_batch.proofs.Names.{◌≡◌, ℕ, ◌+◌, ◌<◌, ◌≤◌, List, [], ◌∷◌, ◌++◌, length, drop, get_or, Bor, sym, ap, ◌∙◌, subst, append-nil, drop_more, at_drop_all, Format, Edit, batched, key_of, layer_in, Pair, Placed, listed, put_of, Adds, Item}
use Rattle.mst_edits.proofs.Joins.{Joins, make_edit}
use Rattle.mst_batch.proofs.Openings.{adds_then, adds_as}

-- the pairs that so many of the edits put were added
pub record Putting (format : Format) (edits : List (Bor Edit)) (at : ℕ) (old new : List Item)
    : Type 0 where
  pub done : List Pair
  pub joins : Joins [] (listed edits) done [] (listed (drop at edits))
  pub adds : (whole : Placed) → Adds format whole old new done

module _ (format : Format) (edits : List (Bor Edit)) (old : List Item) where
  pub putting_step : (at : ℕ) (new more : List Item) (e : Bor Edit) (key : List ℕ) (layer : ℕ)
      → Putting format edits at old new → at < length edits → e ≡ get_or edits at e
      → key ≡ key_of e.now → layer ≡ layer_in format key
      → ((f : Format) (whole : Placed) → layer_in f (key_of e.now) ≡ layer
      → Adds f whole new more (put_of e.now))
      → Putting format edits (at + 1) old more
  putting_step at new more e key layer p within e_is key_is layer_is put =
      let left : drop at edits ≡ e ∷ drop (at + 1) edits =
      drop_more edits at e within
      ∙ ap (λ (x : Bor Edit). x ∷ drop (at + 1) edits) (sym e_is) in
      let own : layer_in format (key_of e.now) ≡ layer =
      ap (layer_in format) (sym key_is) ∙ sym layer_is in
      record {
        done = p.done ++ put_of e.now;
        joins = make_edit [] (listed edits) p.done [] e.now (listed (drop (at + 1) edits))
            (subst (λ (l : List (Bor Edit)). Joins [] (listed edits) p.done [] (listed l)) left
            p.joins) tt;
        adds = λ whole. adds_then format whole old new more p.done (put_of e.now) (p.adds whole)
            (put format whole own);
      }

  pub putting_end : (at : ℕ) (new : List Item) → Putting format edits at old new
      → length edits ≤ at → (whole : Placed)
      → Adds format whole old new (batched [] (listed edits))
  putting_end at new p all whole =
      let is : p.done ≡ batched [] (listed edits) =
      sym (append-nil p.done)
      ∙ sym (at_drop_all (λ (l : List (Bor Edit)). p.done ++ batched [] (listed l)) edits at all)
      ∙ p.joins.is in
      adds_as format whole old new p.done (batched [] (listed edits)) is (p.adds whole)
