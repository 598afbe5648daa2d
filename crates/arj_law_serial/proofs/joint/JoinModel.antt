-- What survives in a top by the book is what the journal's words say of its includes.
use Rattle.arj_law_parts.proofs.Words
use Words.{◌≡◌, ◌||◌, ◌==◌, ◌&&◌, ◌∙◌, ◌+◌, ℕ, Bool, true, false, cond, List, [], ◌∷◌, Option, Some, None, ap, refl, subst, sym}
use Words.{cons_option, filter_map, list_all, list_any, is_on, In, Body, Label, Line, Uid, name}
use Words.body
use Rattle.arj_law_serial.proofs.Terms
use Terms.{option_map, Act, Placed, act_in, acts, acts_after, chain_in, committed, committed_of, has_end, id_in, path, put, read, top_in}
use Terms.{Inclusion, included, included_of, is_among, joins_by, joins_of, Book, book, book_from, new_book, turned, with_access, with_named}
use Terms.{AreRight, Right, Stands, stands_new, stands_turn, AreSound, acts_turn, holds, its_acts, named_in, tells, named_label, on_path}
use Terms.{has_included, includes_in, lasts_in}
use Rattle.arj_law_runs.proofs.journal.Models.{Tells, new_sound, or_none, reads}
use Rattle.arj_law_serial.proofs.joint.JoinLines.{all_same, no_store}
use Rattle.arj_law_serial.proofs.order.Paths.{chain_on, paths_stay, top_on}

-- ---- commits

-- one more by its label
one_more : (a : Act) (acts : List Act) (l : Label) (us : List Uid) → Tells a acts →
    (holds (λ i. i == a.id) (id_in acts (name l)) || is_on us a.uid) ≡ is_on (with_named acts l us) a.uid
one_more a acts l us t = by (act_in acts (name l)) refl
  where
    by : (o : Option Act) → act_in acts (name l) ≡ o → (holds (λ i. i == a.id) (option_map (λ (x : Act). x.id) o) || is_on us a.uid)
        ≡ is_on (cons_option (option_map (λ (x : Act). x.uid) o) us) a.uid
    by None is = refl
    by (Some x) is = ap (λ b. b || is_on us a.uid) (t x (named_in acts (name l) x is))

committed_step : (a : Act) (B : Book) (b : Body) → Right B b → AreSound B.acts → Tells a B.acts →
    (holds (λ i. i == a.id) (committed_of B.acts b) || is_on B.committed a.uid) ≡ is_on (let V = turned B b in V.committed) a.uid
committed_step a B (body.Committed l) right s t = one_more a B.acts l B.committed t
committed_step a B (body.Began l k u p) right s t = refl
committed_step a B (body.Committing l) right s t = refl
committed_step a B (body.Aborted l c) right s t = refl
committed_step a B (body.Ended l) right s t = refl
committed_step a B (body.Recovered n u) right s t = refl
committed_step a B b right s t = refl

its_commit : (lines : List Line) → AreRight new_book lines → (a : Act) → In a (acts lines) →
    has_end (committed lines) a.id ≡ is_on (let B = book lines in B.committed) a.uid
its_commit lines right a there = sym (or_none (has_end (committed lines) a.id)) ∙ reads a committed_of (λ i. i == a.id)
    (λ B. is_on B.committed a.uid) (committed_step a) new_book 0 lines right new_sound (tells lines right a there)

-- ---- lists

among_those : {A : Type 0} (f : A → Option ℕ) (xs : List A) (s : ℕ) →
    is_among (filter_map f xs) s ≡ list_any (λ (x : A). holds (λ n. n == s) (f x)) xs
among_those f [] s = refl
among_those {A} f (x ∷ xs) s = by (f x) (among_those f xs s)
  where
    by : (o : Option ℕ) → is_among (filter_map f xs) s ≡ list_any (λ (y : A). holds (λ n. n == s) (f y)) xs →
        is_among (cons_option o (filter_map f xs)) s ≡ (holds (λ n. n == s) o || list_any (λ (y : A). holds (λ n. n == s) (f y)) xs)
    by None ih = ih
    by (Some n) ih = ap (λ b. (n == s) || b) ih

put_any : (test : Placed Inclusion → Bool) (n : ℕ) (o : Option Inclusion) (rest : List (Placed Inclusion)) →
    list_any test (put n o rest) ≡ (holds (λ e. test (record { at = n; it = e })) o || list_any test rest)
put_any test n None rest = refl
put_any test n (Some e) rest = refl

turn_round : (t r g : Bool) → ((t || r) || g) ≡ (r || (t || g))
turn_round true true g = refl
turn_round true false g = refl
turn_round false r g = refl

-- ---- includes

module _ (lines : List Line) (right : AreRight new_book lines) (x : ℕ) (a : Act) (there : In a (acts lines)) (s : ℕ) where
  abbrev V : Book
  V = book lines

  -- the include survives in this top, and is of the store
  abbrev test : Placed Inclusion → Bool
  test i = holds (λ n. n == s) (joins_by (committed lines) a.id x i (top_in i.it.path))

  tests : (n y k : ℕ) (c : Act) → test (record { at = n; it = record { path = path (acts lines) c.label; x = y; node = k } })
      ≡ includes_in V a.uid x s (record { act = c; x = y; store = Some k })
  tests n y k c = by (top_in (path (acts lines) c.label)) refl ∙ ap (λ us. lasts_in (is_on V.committed) a.uid (path us c.label)
      (top_in (path us c.label)) && ((y == x) && (k == s))) (sym (its_acts lines right))
    where
      mixed : (p q r : Bool) → holds (λ m. m == s) (cond (p && (q && r)) (Some k) None) ≡ ((p && r) && (q && (k == s)))
      mixed false q r = refl
      mixed true false true = refl
      mixed true false false = refl
      mixed true true true = refl
      mixed true true false = refl

      by : (o : Option Act) → top_in (path (acts lines) c.label) ≡ o → holds (λ m. m == s)
          (joins_by (committed lines) a.id x (record { at = n; it = record { path = path (acts lines) c.label; x = y; node = k } }) o)
          ≡ (lasts_in (is_on V.committed) a.uid (path (acts lines) c.label) o && ((y == x) && (k == s)))
      by None is = refl
      by (Some t) is =
          mixed (t.id == a.id) (y == x) (list_all (λ (b : Act). has_end (committed lines) b.id) (chain_in (path (acts lines) c.label)))
          ∙ (λ i. (tells lines right a there t (on_path (acts lines) c.label t (top_on (path (acts lines) c.label) t is)) i
          && all_same (λ (b : Act). has_end (committed lines) b.id) (λ (b : Act). is_on V.committed b.uid) (chain_in (path (acts lines)
          c.label)) (λ b j. its_commit lines right b (on_path (acts lines) c.label b (chain_on (path (acts lines) c.label) b j))) i)
          && ((y == x) && (k == s)))

  reads_so : (n : ℕ) (B : Book) (ls : List Line) → AreRight B ls → Stands B → (let W = book_from B ls in W.acts) ≡ acts lines
      → (list_any test (read included_of B.acts n ls) || list_any (includes_in V a.uid x s) B.accesses)
      ≡ list_any (includes_in V a.uid x s) (let W = book_from B ls in W.accesses)
  reads_so n B [] so stands end = refl
  reads_so n B (l ∷ ls) so stands end =
      ap (λ b. b || list_any (includes_in V a.uid x s) B.accesses)
      (put_any test n (included_of B.acts l.body) (read included_of (acts_after B.acts l.body) (n + 1) ls))
      ∙ turn_round (holds (λ e. test (record { at = n; it = e })) (included_of B.acts l.body))
      (list_any test (read included_of (acts_after B.acts l.body) (n + 1) ls)) (list_any (includes_in V a.uid x s) B.accesses)
      ∙ ap (λ b. list_any test (read included_of (acts_after B.acts l.body) (n + 1) ls) || b) (here l.body so refl)
      ∙ ap (λ us. list_any test (read included_of us (n + 1) ls) || list_any (includes_in V a.uid x s) (let W = turned B l.body in
      W.accesses)) (sym (acts_turn B l.body))
      ∙ reads_so (n + 1) (turned B l.body) ls so.1 (stands_turn B l.body so.0 stands) end
    where
      here : (b : Body) → AreRight B (l ∷ ls) → l.body ≡ b → (holds (λ e. test (record { at = n; it = e })) (included_of B.acts b)
          || list_any (includes_in V a.uid x s) B.accesses) ≡ list_any (includes_in V a.uid x s) (let W = turned B b in W.accesses)
      here (body.Includes m y k) r is =
          let (c, o, on) = subst (Right B) is r.0 in
          let i = named_in B.acts (name m) c o.named in
          let stay = paths_stay B (l ∷ ls) c r i in
          let label : c.label ≡ name m = named_label B.acts (name m) c o.named in
          let its : path B.acts (name m) ≡ path (acts lines) c.label = ap (path B.acts) (sym label) ∙ sym stay.0
          ∙ ap (λ us. path us c.label) end in
          ap (λ p. test (record { at = n; it = record { path = p; x = y; node = k } }) || list_any (includes_in V a.uid x s) B.accesses) its
          ∙ ap (λ b. b || list_any (includes_in V a.uid x s) B.accesses) (tests n y k c)
          ∙ sym (ap (list_any (includes_in V a.uid x s)) (ap (λ z. with_access z y (Some k) B.accesses) o.named))
      here (body.Ok m y o q) r is =
          let (c, at, on) = subst (Right B) is r.0 in
          sym (ap (list_any (includes_in V a.uid x s)) (ap (λ z. with_access z y None B.accesses) at.named)
          ∙ ap (λ b. b || list_any (includes_in V a.uid x s) B.accesses) (no_store V a.uid x s c y))
      here (body.Began m k u p) r is = refl
      here (body.Committing m) r is = refl
      here (body.Committed m) r is = refl
      here (body.Aborted m c) r is = refl
      here (body.Ended m) r is = refl
      here (body.Recovered m u) r is = refl
      here b r is = refl

  pub joined : has_included (book lines) a.uid x s ≡ is_among (joins_of lines a.id x) s
  joined = sym (among_those (λ (i : Placed Inclusion). joins_by (committed lines) a.id x i (top_in i.it.path)) (included lines) s
      ∙ sym (or_none (list_any test (included lines))) ∙ reads_so 0 new_book lines right stands_new (its_acts lines right))
