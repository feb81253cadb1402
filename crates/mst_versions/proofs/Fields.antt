-- A record's words stay readable while the seat stays as it is.
use Rattle.mst_versions.proofs.Names.{◌≡◌, ℕ, ◌<◌, sym, subst, record_word, record_words, Seated, IsReadable}

pub still_readable : (which : ℕ) {s z : Seated} → z ≡ s
    → ((j : ℕ) → j < record_words → IsReadable s.me.0 (record_word which j)) → (j : ℕ)
    → j < record_words → IsReadable z.me.0 (record_word which j)
still_readable which same readable =
    subst (λ (z : Seated). (j : ℕ) → j < record_words → IsReadable z.me.0 (record_word which j))
    (sym same) readable
