-- A text in memory, from the bytes that it took to those that it gives.
use Rattle.mst_node.proofs.Names.{◌≡◌, ℕ, List, [], Option, Some, refl, sym, subst, IfSome, IfOk, Result}
use Rattle.std.proofs.lemmas.Result.{IfOk-weaker}

-- it begins with no bytes
pub took_none : {text : Option (List ℕ)} → text ≡ Some [] → IfSome text (λ bytes. bytes ≡ [])
took_none is = subst (λ (t : Option (List ℕ)). IfSome t (λ bytes. bytes ≡ [])) (sym is) refl

-- what it gives at the end are the bytes that it took
pub gives_taken : {V E : Type 0} (items : V → List ℕ) (text : Option (List ℕ)) (m : List ℕ)
    (r : Result V E) → IfOk r (λ v. text ≡ Some (items v)) → IfSome text (λ bytes. bytes ≡ m)
    → IfOk r (λ v. items v ≡ m)
gives_taken items text m r told took =
    IfOk-weaker r _ (λ v. items v ≡ m)
    (λ v is. subst (λ (t : Option (List ℕ)). IfSome t (λ bytes. bytes ≡ m)) is took) told

-- the bytes that it gives at once are those too
pub bytes_taken : (begun ended : Option (List ℕ)) (all bytes : List ℕ) → begun ≡ Some []
    → (IfSome begun (λ b. b ≡ []) → IfSome ended (λ b. b ≡ all)) → ended ≡ Some bytes → bytes ≡ all
bytes_taken begun ended all bytes is takes gives =
    subst (λ (t : Option (List ℕ)). IfSome t (λ b. b ≡ all)) gives (takes (took_none is))
