-- What is kept of a journal with one line more.
use Rattle.std.proofs.Common.{◌≡◌, ℕ, ◌+◌, List, [], ◌∷◌, ◌++◌, length, map, Bool, true, false, ◌||◌, ◌==◌, Option, Some, None, refl, sym}
use Rattle.std.proofs.Common.{◌∙◌, ap, arith}
use Rattle.std.specs.List.{cons_option, filter_map, list_any}
use Rattle.std.specs.Option.{option_map}
use Rattle.std.proofs.lemmas.List.{map-append}
use Rattle.std.proofs.lemmas.List.Elements.{filter_map-append}
use Rattle.std.proofs.lemmas.List.Folds.{list_any-append}
use Rattle.arj_base.specs.Uid.{uid_eq}
use Rattle.arj_base.specs.declared.uid.Uid.{Uid}
use Rattle.arj_journal.specs.declared.body.Body.{Body}
use Rattle.arj_journal.specs.declared.body.Line.{Line}
use Rattle.arj_model.proofs.Read.{read-append}
use Rattle.arj_model.specs.Actions.{Act, Placed, acts, committed, committed_of, has_end, put, read, recovered, recovered_of}
use Rattle.arj_model.specs.Calls.{committing_of, committings}
use Rattle.arj_changes.specs.Kept.{called_of}
use Rattle.arj_changes.specs.Noted.{noted_number, noted_uid}
use Rattle.arj_changes.specs.Read.{called_in}
use Rattle.arj_changes.specs.declared.kept.Called.{Called}

put_map : {A B : Type 0} (g : A → B) (n : ℕ) (o : Option A) → map (λ p. g p.it) (put n o []) ≡ cons_option (option_map g o) []
put_map g n None = refl
put_map g n (Some a) = refl

-- items that are kept one for one
pub map_more : {A B : Type 0} (f : List Act → Body → Option A) (g : A → B) (lines : List Line) (line : Line) (items : List B) (o : Option B)
    → items ≡ map (λ p. g p.it) (read f [] 0 lines) → o ≡ option_map g (f (acts lines) line.body) →
    items ++ cons_option o [] ≡ map (λ p. g p.it) (read f [] 0 (lines ++ line ∷ []))
map_more {A} f g lines line items o are is =
    (λ i. are i ++ cons_option (is i) [])
    ∙ ap (λ t. map (λ p. g p.it) (read f [] 0 lines) ++ t) (sym (put_map g (0 + length lines) (f (acts lines) line.body)))
    ∙ sym (map-append (λ p. g p.it) (read f [] 0 lines) (put (0 + length lines) (f (acts lines) line.body) []))
    ∙ ap (map (λ p. g p.it)) (sym (read-append f [] 0 lines line))

put_called : (n m : ℕ) → n ≡ m → (o : Option (List Act)) → filter_map called_of (put n o []) ≡ cons_option (called_in m o) []
put_called n m e None = refl
put_called n m e (Some p) = ap (λ k. cons_option (called_of (record { at = k; it = p })) []) e

-- the commits that were called
pub called_more : (lines : List Line) (line : Line) (items : List Called) (o : Option Called) (at : ℕ) → at ≡ length lines
    → items ≡ filter_map called_of (committings lines) → o ≡ called_in at (committing_of (acts lines) line.body) →
    items ++ cons_option o [] ≡ filter_map called_of (committings (lines ++ line ∷ []))
called_more lines line items o at e are is =
    (λ i. are i ++ cons_option (is i) [])
    ∙ ap (λ t. filter_map called_of (committings lines) ++ t) (sym (put_called (0 + length lines) at (none_more (length lines) ∙ sym e) (committing_of (acts lines) line.body)))
    ∙ sym (filter_map-append called_of (committings lines) (put (0 + length lines) (committing_of (acts lines) line.body) []))
    ∙ ap (filter_map called_of) (sym (read-append committing_of [] 0 lines line))
  where
    none_more : (n : ℕ) → 0 + n ≡ n
    none_more n = omega arith

or_none : (b : Bool) → (b || false) ≡ b
or_none true = refl
or_none false = refl

or_one : (b c : Bool) → (b || (c || false)) ≡ (b || c)
or_one true c = refl
or_one false c = or_none c

put_number : (es : List (Placed ℕ)) (n : ℕ) (o : Option ℕ) (i : ℕ) → has_end (es ++ put n o []) i ≡ noted_number o (has_end es i) i
put_number es n None i = list_any-append (λ e. e.it == i) es [] ∙ or_none (has_end es i)
put_number es n (Some m) i = list_any-append (λ e. e.it == i) es (record { at = n; it = m } ∷ []) ∙ or_one (has_end es i) (m == i)

-- the actions that are committed
pub committed_more : (lines : List Line) (line : Line) (o : Option ℕ) (old new : ℕ → Bool) → o ≡ committed_of (acts lines) line.body
    → ((i : ℕ) → new i ≡ noted_number o (old i) i) → ((i : ℕ) → old i ≡ has_end (committed lines) i) → (i : ℕ) →
    new i ≡ has_end (committed (lines ++ line ∷ [])) i
committed_more lines line o old new is noted has i =
    noted i ∙ (λ k. noted_number (is k) (has i k) i) ∙ sym (put_number (committed lines) (0 + length lines) (committed_of (acts lines) line.body) i)
    ∙ ap (λ es. has_end es i) (sym (read-append committed_of [] 0 lines line))

put_found : (es : List (Placed Uid)) (n : ℕ) (o : Option Uid) (u : Uid) →
    list_any (λ p. uid_eq p.it u) (es ++ put n o []) ≡ noted_uid o (list_any (λ p. uid_eq p.it u) es) u
put_found es n None u = list_any-append (λ p. uid_eq p.it u) es [] ∙ or_none (list_any (λ p. uid_eq p.it u) es)
put_found es n (Some w) u =
    list_any-append (λ p. uid_eq p.it u) es (record { at = n; it = w } ∷ []) ∙ or_one (list_any (λ p. uid_eq p.it u) es) (uid_eq w u)

-- the records that were found
pub found_more : (lines : List Line) (line : Line) (o : Option Uid) (old new : Uid → Bool) → o ≡ recovered_of (acts lines) line.body
    → ((u : Uid) → new u ≡ noted_uid o (old u) u) → ((u : Uid) → old u ≡ list_any (λ p. uid_eq p.it u) (recovered lines)) → (u : Uid) →
    new u ≡ list_any (λ p. uid_eq p.it u) (recovered (lines ++ line ∷ []))
found_more lines line o old new is noted has u =
    noted u ∙ (λ k. noted_uid (is k) (has u k) u) ∙ sym (put_found (recovered lines) (0 + length lines) (recovered_of (acts lines) line.body) u)
    ∙ ap (λ es. list_any (λ p. uid_eq p.it u) es) (sym (read-append recovered_of [] 0 lines line))
