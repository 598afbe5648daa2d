-- Who is decided by the lines of a step: nobody before a stop, and at the end whom its effects say.
use Rattle.arj_law_parts.proofs.Words
use Words.{◌≡◌, ◌⊎◌, ℕ, List, [], ◌∷◌, true, Option, Some, None, refl, sym, ◌∙◌, ap, subst, inl, inr, ⊎_elim, uid_is, is_on, uid_eq}
use Words.{cons_option, Body, Uid, Disk, Do, Effect, Say, Send, numbered, Post, Seen}
use Words.body
use Rattle.arj_law_runs.proofs.Terms.{posted, said, Walks, Book, book, is_decided, new_book, turned, AreIdle, AreLate, decides}
use Rattle.arj_law_runs.proofs.journal.Books.{book_more, committed_decided, found_decided, or_which, quiet_book}
use Rattle.arj_law_runs.specs.journal.Book.{uid_in}

-- whom a line decides
on_more : (o : Option Uid) (us : List Uid) (u : Uid) → is_on (cons_option o us) u ≡ true → (o ≡ Some u) ⊎ (is_on us u ≡ true)
on_more None us u on = inr on
on_more (Some w) us u on = ⊎_elim (λ same. inl (ap Some (uid_is w u same))) (λ old. inr old) (or_which (uid_eq w u) (is_on us u) on)

newly : (B : Book) (b : Body) (u : Uid) → is_decided (turned B b) u ≡ true → (is_decided B u ≡ true) ⊎ (decides B b ≡ Some u)
newly B (body.Committed l) u is =
    ⊎_elim (λ on. ⊎_elim (λ new. inr new) (λ old. inl (committed_decided B u old)) (on_more (uid_in B.acts l) B.committed u on))
    (λ found. inl (found_decided B u found)) (or_which (is_on (cons_option (uid_in B.acts l) B.committed) u) (is_on B.found u) is)
newly B (body.Recovered n w) u is = ⊎_elim (λ on. inl (committed_decided B u on)) (λ found. ⊎_elim (λ new. inr new)
    (λ old. inl (found_decided B u old)) (on_more (Some w) B.found u found)) (or_which (is_on B.committed u) (is_on (w ∷ B.found) u) is)
newly B (body.Began l h w p) u is = inl is
newly B (body.Committing l) u is = inl is
newly B (body.Aborted l c) u is = inl is
newly B (body.Ended l) u is = inl is
newly B b u is = inl is

-- who is decided was so before, or is one of these
abbrev pub IsOld : Book → Book → Type 0
IsOld B V = (u : Uid) → is_decided V u ≡ true → is_decided B u ≡ true

abbrev pub IsOldOr : (Uid → Type 0) → Book → Book → Type 0
IsOldOr Q B V = (u : Uid) → is_decided V u ≡ true → (is_decided B u ≡ true) ⊎ Q u

pub late_walk : (Q : Uid → Type 0) (B : Book) (e k : ℕ) (es : List Effect) (d : Disk) (N : Seen) (V : Book) → book N.lines ≡ V →
    AreLate Q V es → IsOld B V ⊎ AreIdle es → IsOldOr Q B V
    → Walks (λ Z. IsOld B (book Z.lines)) e k es (λ c Z. IsOldOr Q B (book Z.lines)) d N
late_walk Q B e k [] d N V is late yet so = subst (IsOldOr Q B) (sym is) so
late_walk Q B e k (Do w ∷ es) d N V is late (inl old) so = (
  λ how. subst (IsOld B) (sym (book_more new_book N.lines (numbered e (body.Halted k ∷ [])) ∙ is)) old,
  late_walk Q B e k es _ N V is late (inl old) so,
)
late_walk Q B e k (Do w ∷ es) d N V is late (inr idle) so = absurd idle.0
late_walk Q B e k (Send to m ∷ es) d N V is late yet so = λ more quiet. let p : Post = record { from = k; to = to; message = m } in
    late_walk Q B e k es d (said e more (posted p N)) V (book_more new_book N.lines (numbered e more)
    ∙ quiet_book (book N.lines) e more quiet ∙ is) late (⊎_elim (λ old. inl old) (λ idle. inr idle.1) yet) so
late_walk Q B e k (Say b ∷ es) d N V is late yet so =
    late_walk Q B e k es d (said e (b ∷ []) N) (turned V b) (book_more new_book N.lines (numbered e (b ∷ [])) ∙ ap (λ X. turned X b) is)
    late.1 (by (decides V b) refl)
    (λ u on. ⊎_elim (λ was. so u was) (λ new. inr (late.0 u new).0) (newly V b u on))
  where
    by : (o : Option Uid) → decides V b ≡ o → IsOld B (turned V b) ⊎ AreIdle es
    by None none = ⊎_elim (λ old. inl (λ u on. ⊎_elim (λ was. old u was) (λ new. let no_way : ◌≡◌ {A = Option Uid} None (Some u) = sym none
        ∙ new in absurd (cc no_way)) (newly V b u on))) (λ idle. inr idle.1) yet
    by (Some w) one = inr (late.0 w one).1
