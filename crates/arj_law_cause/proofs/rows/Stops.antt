-- Which lines a node's step may write: they are its own, and begin with the frame that it takes. By such lines it stops while it takes a
-- Prepare, where it is asked for one.
use Rattle.arj_law_parts.proofs.Words
use Words.{◌≡◌, ◌∙◌, ◌==◌, ◌&&◌, ◌||◌, ◌++◌, ◌≤◌, not, ℕ, zero, suc, Bool, true, false, List, [], ◌∷◌, Option, Some, None, refl}
use Words.{sym, ap}
use Words.{⊎_elim, arith, length, list_all, and_parts, or_cases, Body, Line, eqb-true, eq-eqb}
use Words.{numbered}
use Rattle.arj_protocol.specs.Words.{FrameKind}
use Words.body
use Rattle.std.specs.Prelude.{drop, take}
use Rattle.std.proofs.lemmas.List.Folds.{list_all-append}
use Rattle.arj_model.specs.CausePends.{frame_is, got_step, halts_preparing, is_crash_at, is_prepare, last_got, sends}
use Rattle.arj_model.specs.CauseSpans.{holds_in}
use Rattle.arj_model.specs.Past.{Asked as AskedOf}

-- a line that this node may write as it takes a frame
abbrev pub is_own : ℕ → Body → Bool
is_own k (body.Sent j from to what) = from == k
is_own k (body.Halted n) = n == k
is_own k (body.Got j) = false
is_own k b = true

-- and one that it may while it takes none
abbrev pub is_calm : ℕ → Body → Bool
is_calm k (body.Sent j from to what) = from == k
is_calm k (body.Halted n) = false
is_calm k (body.Got j) = false
is_calm k b = true

-- it is the frame's
abbrev pub is_got : ℕ → Body → Bool
is_got j (body.Got i) = i == j
is_got j b = false

-- so it is of the lines of the node's step in this event, which takes this frame if any
abbrev pub are_own : ℕ → ℕ → Option ℕ → List Line → Bool
are_own k e None xs = list_all (λ (l : Line). is_own k l.body) xs
are_own k e (Some j) [] = true
are_own k e (Some j) (x ∷ xs) =
    (is_got j x.body && ((x.event == e) && list_all (λ (l : Line). is_own k l.body) xs)) || list_all (λ (l : Line). is_calm k l.body)
    (x ∷ xs)

all_parts : (p : Line → Bool) (xs ys : List Line) → list_all p (xs ++ ys) ≡ true → (list_all p xs ≡ true) × (list_all p ys ≡ true)
all_parts p xs ys is = and_parts (list_all p xs) (list_all p ys) (sym (list_all-append p xs ys) ∙ is)

calm_own : (k : ℕ) (b : Body) → is_calm k b ≡ true → is_own k b ≡ true
calm_own k (body.Sent j from to what) is = is
calm_own k (body.Halted n) is = absurd (cc is)
calm_own k (body.Got j) is = absurd (cc is)
calm_own k b is = refl

or_left : (a b : Bool) → a ≡ true → (a || b) ≡ true
or_left true b is = refl
or_left false b is = absurd (cc is)

or_right : (a b : Bool) → b ≡ true → (a || b) ≡ true
or_right true b is = refl
or_right false b is = is

-- the first of them
pub own_less : (k e : ℕ) (f : Option ℕ) (xs ys : List Line) → are_own k e f (xs ++ ys) ≡ true → are_own k e f xs ≡ true
own_less k e None xs ys is = (all_parts (λ (l : Line). is_own k l.body) xs ys is).0
own_less k e (Some j) [] ys is = refl
own_less k e (Some j) (x ∷ xs) ys is =
    let g = is_got j x.body in
    let here = x.event == e in
    let own = λ (l : Line). is_own k l.body in
    let calm = λ (l : Line). is_calm k l.body in
    ⊎_elim {C = are_own k e (Some j) (x ∷ xs) ≡ true}
    (λ got. let p = and_parts g (here && list_all own (xs ++ ys)) got in let q = and_parts here (list_all own (xs ++ ys)) p.1 in
    or_left (g && (here && list_all own xs)) (list_all calm (x ∷ xs)) (λ i. p.0 i && (q.0 i && (all_parts own xs ys q.1).0 i)))
    (λ none. or_right (g && (here && list_all own xs)) (list_all calm (x ∷ xs)) (all_parts calm (x ∷ xs) ys none).0)
    (or_cases (g && (here && list_all own (xs ++ ys))) (list_all calm (x ∷ (xs ++ ys))) is)

-- the last one, where it is no frame that is taken
own_last : (k e : ℕ) (f : Option ℕ) (xs : List Line) (l : Line) → ((j : ℕ) → is_got j l.body ≡ false) →
    are_own k e f (xs ++ l ∷ []) ≡ true →
    is_own k l.body ≡ true
own_last k e None xs l other is = (and_parts (is_own k l.body) true (all_parts (λ (y : Line). is_own k y.body) xs (l ∷ []) is).1).0
own_last k e (Some j) [] l other is = ⊎_elim {C = is_own k l.body ≡ true}
    (λ got. let no_way : true ≡ false = sym (and_parts (is_got j l.body) ((l.event == e) && true) got).0 ∙ other j in absurd (cc no_way))
    (λ none. calm_own k l.body (and_parts (is_calm k l.body) true none).0)
    (or_cases (is_got j l.body && ((l.event == e) && true)) (is_calm k l.body && true) is)
own_last k e (Some j) (x ∷ xs) l other is =
    let g = is_got j x.body in
    let here = x.event == e in
    let own = λ (y : Line). is_own k y.body in
    let calm = λ (y : Line). is_calm k y.body in
    ⊎_elim {C = is_own k l.body ≡ true}
    (λ got. let p = and_parts g (here && list_all own (xs ++ l ∷ [])) got in let q = and_parts here (list_all own (xs ++ l ∷ [])) p.1 in
    (and_parts (is_own k l.body) true (all_parts own xs (l ∷ []) q.1).1).0)
    (λ none. calm_own k l.body (and_parts (is_calm k l.body) true (all_parts calm (x ∷ xs) (l ∷ []) none).1).0)
    (or_cases (g && (here && list_all own (xs ++ l ∷ []))) (list_all calm (x ∷ (xs ++ l ∷ []))) is)

pub own_halt : (k e : ℕ) (f : Option ℕ) (xs : List Line) (i n : ℕ) → are_own k e f (xs ++ numbered i (body.Halted n ∷ [])) ≡ true → n ≡ k
own_halt k e f xs i n is = eqb-true n k (own_last k e f xs (record { event = i; body = body.Halted n }) (λ j. refl) is)

pub own_sent : (k e : ℕ) (f : Option ℕ) (xs : List Line) (i j from to : ℕ) (what : FrameKind) →
    are_own k e f (xs ++ numbered i (body.Sent j from to what ∷ [])) ≡ true → from ≡ k
own_sent k e f xs i j from to what is =
    eqb-true from k (own_last k e f xs (record { event = i; body = body.Sent j from to what }) (λ j. refl) is)

-- ---- the last frame that was delivered

got_over : (e : ℕ) (z : Option ℕ) (xs ys : List Line) → last_got e z (xs ++ ys) ≡ last_got e (last_got e z xs) ys
got_over e z [] ys = refl
got_over e z (x ∷ xs) ys = got_over e (got_step e x z) xs ys

got_one : (a e j : ℕ) (z : Option ℕ) → (a == e) ≡ true → got_step e (record { event = a; body = body.Got j }) z ≡ Some j
got_one a e j z is = rw is refl

got_off : (k e : ℕ) (x : Line) (z : Option ℕ) → is_own k x.body ≡ true → got_step e x z ≡ z
got_off k e x z is = by x.body (x.event == e) refl is
  where
    by : (b : Body) (here : Bool) → (x.event == e) ≡ here → is_own k b ≡ true → got_step e (record { event = x.event; body = b }) z ≡ z
    by (body.Got j) here same own = absurd (cc own)
    by b true same own = rw same refl
    by b false same own = rw same refl

gots_off : (k e : ℕ) (xs : List Line) (z : Option ℕ) → list_all (λ (l : Line). is_own k l.body) xs ≡ true → last_got e z xs ≡ z
gots_off k e [] z all = refl
gots_off k e (x ∷ xs) z all = let p = and_parts (is_own k x.body) (list_all (λ (l : Line). is_own k l.body) xs) all in
    ap (λ y. last_got e y xs) (got_off k e x z p.0) ∙ gots_off k e xs z p.1

-- where the node stops behind lines of its step, it has taken the frame
pub got_last : (k e : ℕ) (j : ℕ) (before xs : List Line) (i : ℕ) → are_own k e (Some j) (xs ++ numbered i (body.Halted k ∷ [])) ≡ true →
    last_got e None (before ++ xs) ≡ Some j
got_last k e j before [] i is = absurd (cc is)
got_last k e j before (x ∷ xs) i is =
    let g = is_got j x.body in
    let here = x.event == e in
    let halt = numbered i (body.Halted k ∷ []) in
    let own = λ (y : Line). is_own k y.body in
    let calm = λ (y : Line). is_calm k y.body in
    ⊎_elim {C = last_got e None (before ++ x ∷ xs) ≡ Some j}
    (λ got. let p = and_parts g (here && list_all own (xs ++ halt)) got in let q = and_parts here (list_all own (xs ++ halt)) p.1 in
    got_over e None before (x ∷ xs) ∙ ap (λ y. last_got e y xs) (first x.body (last_got e None before) p.0 q.0)
    ∙ gots_off k e xs (Some j) (all_parts own xs halt q.1).0)
    (λ none. let no_way : false ≡ true = (all_parts calm (x ∷ xs) halt none).1 in absurd (cc no_way))
    (or_cases (g && (here && list_all own (xs ++ halt))) (list_all calm (x ∷ (xs ++ halt))) is)
  where
    first : (b : Body) (z : Option ℕ) → is_got j b ≡ true → (x.event == e) ≡ true →
        got_step e (record { event = x.event; body = b }) z ≡ Some j
    first (body.Got m) z same here = got_one x.event e m z here ∙ ap Some (eqb-true m j same)
    first b z same here = absurd (cc same)

-- ---- where it stops

-- it is home
pub stops_home : (A : List AskedOf) (home n : ℕ) (ls : List Line) (e : ℕ) → is_crash_at A n e ≡ false → n ≡ home →
    halts_preparing A home n ls e ≡ true
stops_home A home n ls e alive same = (λ i. not (alive i) && ((n == home) || holds_in (frame_is (is_prepare home n) ls)
    (last_got e None ls)))
    ∙ or_left (n == home) (holds_in (frame_is (is_prepare home n) ls) (last_got e None ls)) (eq-eqb n home same)

-- it takes a frame from there
pub stops_asked : (A : List AskedOf) (home n j : ℕ) (ls : List Line) (e : ℕ) → is_crash_at A n e ≡ false → last_got e None ls ≡ Some j →
    frame_is (is_prepare home n) ls j ≡ true → halts_preparing A home n ls e ≡ true
stops_asked A home n j ls e alive got is = (λ i. not (alive i) && ((n == home) || holds_in (frame_is (is_prepare home n) ls) (got i)))
    ∙ or_right (n == home) (frame_is (is_prepare home n) ls j) is

-- the frame's line stays
pub frame_more : (test : ℕ → ℕ → FrameKind → Bool) (j : ℕ) (ls ms : List Line) → frame_is test ls j ≡ true →
    frame_is test (ls ++ ms) j ≡ true
frame_more test j [] ms is = absurd (cc is)
frame_more test j (l ∷ ls) ms is = ⊎_elim {C = frame_is test (l ∷ (ls ++ ms)) j ≡ true}
    (λ here. or_left (sends test j l.body) (frame_is test (ls ++ ms) j) here)
    (λ there. or_right (sends test j l.body) (frame_is test (ls ++ ms) j) (frame_more test j ls ms there))
    (or_cases (sends test j l.body) (frame_is test ls j) is)

-- ---- lines behind those of before

pub drop_on : (n : ℕ) (xs ys : List Line) → n ≤ length xs → drop n (xs ++ ys) ≡ drop n xs ++ ys
drop_on zero xs ys few = refl
drop_on (suc n) [] ys few = absurd (omega (arith, few))
drop_on (suc n) (x ∷ xs) ys few = drop_on n xs ys (omega (arith, few))

pub split_at : (n : ℕ) (xs : List Line) → take n xs ++ drop n xs ≡ xs
split_at zero xs = refl
split_at (suc n) [] = refl
split_at (suc n) (x ∷ xs) = ap (λ ls. x ∷ ls) (split_at n xs)

pub drop_all : (xs ys : List Line) → drop (length xs) (xs ++ ys) ≡ ys
drop_all [] ys = refl
drop_all (x ∷ xs) ys = drop_all xs ys
