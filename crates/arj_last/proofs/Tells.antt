-- Which last states are told.
use Rattle.std.proofs.Common.{◌≡◌, ◌<◌, ℕ, zero, suc, ◌+◌, List, [], ◌∷◌, ◌++◌, length, map, take, get_or, append-nil, Bool, true, false}
use Rattle.std.proofs.Common.{cond, ◌&&◌, ◌||◌, ◌==◌, not}
use Rattle.std.proofs.Common.{Option, Some, None, refl, sym, ◌∙◌, ap, append_assoc, arith}
use Rattle.std.specs.Prelude.{filter, find}
use Rattle.std.specs.List.{AllByRecursion, flat_map, list_any}
use Rattle.std.proofs.lemmas.Grind.{flat_map-append}
use Rattle.std.specs.Option.{option_map}
use Rattle.std.proofs.lemmas.Bool.{eq-eqb}
use Rattle.arj_base.specs.Uid.{uid_eq}
use Rattle.arj_journal.specs.declared.body.Line.{Line}
use Rattle.arj_journal.specs.declared.header.Header.{Header}
use Rattle.arj_journal.specs.declared.header.ObjectLine.{ObjectLine}
use Rattle.arj_model.specs.Actions.{Act, acts, committed, has_end, is_committed, recovered, root_in, top_in}
use Rattle.arj_model.specs.Calls.{Call, made, root_or}
use Rattle.arj_model.specs.Last.{object_line}
use Rattle.arj_model.specs.Serial.{writes_on}
use Rattle.arj_changes.proofs.Paths.{top_is}
use Rattle.arj_changes.specs.Kept.{AreKept, is_ended, is_found}
use Rattle.arj_changes.specs.Lines.{root_number}
use Rattle.arj_changes.specs.Paths.{top_link}
use Rattle.arj_changes.specs.declared.kept.Changes.{Changes}
use Rattle.arj_last.specs.Kept.{write_of}
use Rattle.arj_last.specs.declared.kept.Write.{Write}
use Rattle.arj_standing.proofs.Filters.{take_next}
use Rattle.arj_standing.specs.Begun.{link, links}
use Rattle.arj_standing.specs.declared.begun.Link.{Link}
use Rattle.arj_last.specs.Told.{is_told_of, wrote_in}

-- an object of a header is found there, or one before it of its number
found : (front : List ObjectLine) (o : ObjectLine) (back : List ObjectLine) →
    (p : ObjectLine) × (find (λ q. q.x == o.x) (front ++ o ∷ back) ≡ Some p)
found [] o back = (o, ap (λ b. cond b (Some o) (find (λ q. q.x == o.x) back)) (eq-eqb o.x o.x refl))
found (p ∷ front) o back = by (found front o back) (p.x == o.x)
  where
    by : ((q : ObjectLine) × (find (λ r. r.x == o.x) (front ++ o ∷ back) ≡ Some q)) → (b : Bool) →
        (q : ObjectLine) × (cond b (Some p) (find (λ r. r.x == o.x) (front ++ o ∷ back)) ≡ Some q)
    by ih true = (p, refl)
    by ih false = ih

-- each object of a header is found there
pub all_found : (h : Header) → AllByRecursion (λ o. (p : ObjectLine) × (object_line h o.x ≡ Some p)) h.objects
all_found h = go [] h.objects refl
  where
    go : (front back : List ObjectLine) → h.objects ≡ front ++ back →
        AllByRecursion (λ o. (p : ObjectLine) × (object_line h o.x ≡ Some p)) back
    go front [] e = tt
    go front (o ∷ back) e =
        let there = found front o back in
        ((there.0, ap (find (λ q. q.x == o.x)) e ∙ there.1), go (front ++ o ∷ []) back (e ∙ sym (append_assoc front (o ∷ []) back)))

-- what holds of each item holds of the one at a place
pub at_place : {A : Type 0} (P : A → Type 0) (xs : List A) (i : ℕ) (d : A) → i < length xs → AllByRecursion P xs → P (get_or xs i d)
at_place P [] i d lt all = absurd (omega (arith, lt))
at_place P (x ∷ xs) zero d lt all = all.0
at_place P (x ∷ xs) (suc i) d lt all = at_place P xs i d (omega (arith, lt)) all.1

-- pieces, with the next one
pub flat_next : {A : Type 0} (f : A → List ℕ) (xs : List A) (i : ℕ) (x : A) → i < length xs → x ≡ get_or xs i x →
    flat_map f (take (i + 1) xs) ≡ flat_map f (take i xs) ++ f x
flat_next f xs i x lt is =
    ap (flat_map f) (take_next xs i x lt is) ∙ flat_map-append f (take i xs) (x ∷ [])
    ∙ ap (λ t. flat_map f (take i xs) ++ t) (append-nil (f x))

-- answered writes of a top, as they are kept
pub any_wrote : (id : ℕ) (cs : List Call) → list_any (λ w. w.top == id) (map write_of cs) ≡ list_any (λ c. c.top == id) cs
any_wrote id [] = refl
any_wrote id (c ∷ cs) = ap (λ b. (c.top == id) || b) (any_wrote id cs)

root_is : (n : ℕ) (p : List Act) → root_number n (links p) ≡ root_or n (root_in p)
root_is n [] = refl
root_is n (a ∷ p) = refl

-- what is told of the top of a path, by what is kept
pub its_top : (lines : List Line) (c : Changes) → AreKept lines c → (p : List Act) (x : ℕ) (top : Link) → top_link (links p) ≡ Some top
    → is_told_of lines p x (top_in p) ≡ ((is_ended c top.id || is_found c top.uid) && (not (root_number top.id
    (links p) == top.id) || wrote_in lines top.id x))
its_top lines c has p x top e = by (top_in p) (sym (top_is p) ∙ e)
  where
    by : (o : Option Act) → option_map link o ≡ Some top
        → is_told_of lines p x o ≡ ((is_ended c top.id || is_found c top.uid) && (not (root_number top.id
        (links p) == top.id) || wrote_in lines top.id x))
    by None g = absurd (cc g)
    by (Some t) g =
        let same : link t ≡ top = cc g in
        (λ i. (sym (has.committed t.id) i || sym (has.found t.uid) i) && (not (sym (root_is t.id p) i == t.id) || wrote_in lines t.id x))
        ∙ (λ i. (is_ended c (let l = same i in l.id) || is_found c (let l = same i in l.uid)) && (not (root_number (let l =
        same i in l.id) (links p) == (let l = same i in l.id)) || wrote_in lines (let l = same i in l.id) x))
