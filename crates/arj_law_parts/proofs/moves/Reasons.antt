-- Why the world doesn't refuse an event: labels that are new, and labels of actions that it began.
use Rattle.arj_law_parts.proofs.Words
use Words.{Bool, Label, List, None, World, false, first_reason, is_given, is_known, was_given, not, refl, true, ℕ, ◌||◌, [], ◌∷◌, ◌≡◌}

pub first_not : (c : ℕ) (b : Bool) (rs : List (ℕ × Bool)) → first_reason ((c, b) ∷ rs) ≡ None → (b ≡ false) × (first_reason rs ≡ None)
first_not c true rs none = absurd (cc none)
first_not c false rs none = (refl, none)

pub not_not : (b : Bool) → not b ≡ false → b ≡ true
not_not true is = refl
not_not false is = absurd (cc is)

-- not the first
first_of_two : (a b : Bool) → (a || b) ≡ false → a ≡ false
first_of_two true b is = absurd (cc is)
first_of_two false b is = refl

-- neither
none_of_two : (a b : Bool) → (a || b) ≡ false → b ≡ false
none_of_two true b is = absurd (cc is)
none_of_two false b is = is

-- the second, where one of them is, and the first isn't
second_of_two : (a b : Bool) → (a || b) ≡ true → a ≡ false → b ≡ true
second_of_two true b is isnt = absurd (cc isnt)
second_of_two false b is isnt = is

-- the label is new
pub is_new : (l : Label) (w : World) (rs : List (ℕ × Bool)) → first_reason ((4, is_known l w) ∷ rs) ≡ None →
    (is_given l w ≡ false) × (first_reason rs ≡ None)
is_new l w rs none = let r = first_not 4 (is_known l w) rs none in (none_of_two (was_given l w) (is_given l w) r.0, r.1)

-- and it wasn't given before the run
pub is_unused : (l : Label) (w : World) (rs : List (ℕ × Bool)) → first_reason ((4, is_known l w) ∷ rs) ≡ None → was_given l w ≡ false
is_unused l w rs none = let r = first_not 4 (is_known l w) rs none in first_of_two (was_given l w) (is_given l w) r.0

-- the label was given in this run
pub is_there : (l : Label) (w : World) → first_reason ((5, not (is_known l w)) ∷ (6, was_given l w) ∷ []) ≡ None → is_given l w ≡ true
is_there l w none =
    let r = first_not 5 (not (is_known l w)) ((6, was_given l w) ∷ []) none in
    let q = first_not 6 (was_given l w) [] r.1 in
    second_of_two (was_given l w) (is_given l w) (not_not (is_known l w) r.0) q.0
