-- What a journal's lines say that a top excluded, in the words of `arj_model`.
use Rattle.arj_law_parts.proofs.Words
use Words.{◌≡◌, ◌||◌, ◌==◌, ◌&&◌, ◌∙◌, ◌+◌, ℕ, Bool, true, false, cond, List, [], ◌∷◌, Option, Some, None, ap, refl, subst, sym, eq-eqb}
use Words.{filter, map, list_any, bytes_eq, bytes_eq-Decides, uid_is, In, Body, Line, name}
use Rattle.arj_law_serial.proofs.Terms
use Terms.{Act, Placed, act_in, acts, acts_after, path, put, read, top_in, is_among, leaves_of, Book, book_from, new_book, turned, AreRight}
use Terms.{Right, Stands, one_act, stands_new, stands_turn, acts_turn, holds, its_acts, its_sound, named_in, tells, named_label, excludes}
use Terms.{was_marked}
use Terms.body
use Rattle.arj_law_runs.proofs.journal.Books.{never}
use Rattle.arj_law_serial.proofs.order.{Order.own, Paths.found, Paths.paths_stay}
use Rattle.arj_model.specs.Last.{Exclusion, excluded, excluded_of, exclusion_by}

put_any : (test : Placed Exclusion → Bool) (n : ℕ) (o : Option Exclusion) (rest : List (Placed Exclusion)) →
    list_any test (put n o rest) ≡ (holds (λ e. test (record { at = n; it = e })) o || list_any test rest)
put_any test n None rest = refl
put_any test n (Some e) rest = refl

together : (a b c : Bool) → ((a && b) && c) ≡ (a && (b && c))
together true b c = refl
together false b c = refl

module _ (lines : List Line) (right : AreRight new_book lines) (x : ℕ) (a : Act) (there : In a (acts lines)) (s : ℕ) where
  -- the exclusion is this top's, of the store for the object
  abbrev test : Placed Exclusion → Bool
  test e = ((e.it.top == a.id) && (e.it.x == x)) && (e.it.node == s)

  among_those : (es : List (Placed Exclusion)) → is_among (map (λ (e : Placed Exclusion). e.it.node)
      (filter (λ (e : Placed Exclusion). (e.it.top == a.id) && (e.it.x == x)) es)) s ≡ list_any test es
  among_those [] = refl
  among_those (e ∷ es) = by ((e.it.top == a.id) && (e.it.x == x)) (among_those es)
    where
      by : (b : Bool) → is_among (map (λ (f : Placed Exclusion). f.it.node)
          (filter (λ (f : Placed Exclusion). (f.it.top == a.id) && (f.it.x == x)) es)) s ≡ list_any test es
          → is_among (map (λ (f : Placed Exclusion). f.it.node) (cond b (e ∷ filter (λ (f : Placed Exclusion). (f.it.top == a.id)
          && (f.it.x == x)) es) (filter (λ (f : Placed Exclusion). (f.it.top == a.id) && (f.it.x == x)) es))) s
          ≡ ((b && (e.it.node == s)) || list_any test es)
      by true ih = ap (λ b. (e.it.node == s) || b) ih
      by false ih = ih

  -- actions of the journal are told apart by their numbers as by their labels
  by_name : (c : Act) → In c (acts lines) → (c.id == a.id) ≡ bytes_eq c.label a.label
  by_name c i = by (bytes_eq c.label a.label) refl
    where
      by : (b : Bool) → bytes_eq c.label a.label ≡ b → (c.id == a.id) ≡ b
      by true is =
          let z = its_sound lines right in
          let e : ◌≡◌ {A = Option Act} (Some c) (Some a) = sym (found (acts lines) z.distinct c i)
          ∙ ap (act_in (acts lines)) ((bytes_eq-Decides c.label a.label).0 is) ∙ found (acts lines) z.distinct a there in
          eq-eqb c.id a.id (ap (λ (y : Act). y.id) (let same : c ≡ a = cc e in same))
      by false off = other (c.id == a.id) refl
        where
          other : (b : Bool) → (c.id == a.id) ≡ b → b ≡ false
          other true is =
              let same = one_act (acts lines) (let z = its_sound lines right in
              z.distinct) c a i there (uid_is c.uid a.uid (sym (tells lines right a there c i) ∙ is)) in
              absurd (never ((bytes_eq-Decides c.label a.label).1 (ap (λ (y : Act). y.label) same)) off)
          other false is = refl

  reads_so : (n : ℕ) (B : Book) (ls : List Line) → AreRight B ls → Stands B → (let V = book_from B ls in V.acts) ≡ acts lines →
      list_any test (read excluded_of B.acts n ls) ≡ was_marked ls a.label x s
  reads_so n B [] so stands end = refl
  reads_so n B (l ∷ ls) so stands end =
      put_any test n (excluded_of B.acts l.body) (read excluded_of (acts_after B.acts l.body) (n + 1) ls)
      ∙ (λ i. here l.body so refl i || (ap (λ us. list_any test (read excluded_of us (n + 1) ls)) (sym (acts_turn B l.body))
      ∙ reads_so (n + 1) (turned B l.body) ls so.1 (stands_turn B l.body so.0 stands) end) i)
    where
      here : (b : Body) → AreRight B (l ∷ ls) → l.body ≡ b →
          holds (λ e. test (record { at = n; it = e })) (excluded_of B.acts b) ≡ excludes a.label x s b
      here (body.Excluded m y k) r is =
          let (c, o, on) = subst (Right B) is r.0 in
          let i = named_in B.acts (name m) c o.named in
          let stay = paths_stay B (l ∷ ls) c r i in
          let label : c.label ≡ name m = named_label B.acts (name m) c o.named in
          let c_there = subst (In c) end stay.1 in
          let its : path B.acts (name m) ≡ path (acts lines) c.label = ap (path B.acts) (sym label) ∙ sym stay.0
          ∙ ap (λ us. path us c.label) end in
          let closes = stands.closes in
          ap (λ p. holds (λ e. test (record { at = n; it = e })) (exclusion_by y k (top_in p))) its
          ∙ ap (λ t. holds (λ e. test (record { at = n; it = e })) (exclusion_by y k t)) (own lines right c c_there (closes.calls c i on))
          ∙ together (c.id == a.id) (y == x) (k == s)
          ∙ ap (λ b. b && ((y == x) && (k == s))) (by_name c c_there ∙ ap (λ q. bytes_eq q a.label) label)
      here b r is = refl

  pub left : was_marked lines a.label x s ≡ is_among (leaves_of lines a.id x) s
  left = sym (among_those (excluded lines) ∙ reads_so 0 new_book lines right stands_new (its_acts lines right))
