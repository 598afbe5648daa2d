-- Fronts by numbers of tops are fronts by places in serial order.
use Rattle.std.proofs.Common.{◌≡◌, ◌<◌, ◌⊎◌, inl, inr, ℕ, ◌+◌, List, [], ◌∷◌, Bool, true, false, cond, not, ◌==◌, ◌&&◌, ◌||◌, Option, Some, None}
use Rattle.std.proofs.Common.{refl, sym, ◌∙◌, ap, arith}
use Rattle.std.specs.Prelude.{filter}
use Rattle.std.specs.List.{AllByRecursion, list_any}
use Rattle.std.proofs.lemmas.Bool.{eq-eqb, eqb-true}
use Rattle.std.proofs.lemmas.Bool.Decides.{nat_tests}
use Rattle.arj_law.proofs.Common.{Pairwise, lex_same, lex_turn, never}
use Rattle.arj_model.specs.Calls.{Call}
use Rattle.arj_model.specs.Last.{count_tops}
use Rattle.arj_model.specs.Serial.{lex}
use Rattle.arj_past.specs.Rows.{front_from, left_by, was}
use Rattle.arj_replay.proofs.Keys.{lex_then}

-- Of two calls the first is of the second's top, or its top stands before it.
abbrev pub StandsBefore : (ℕ → List ℕ) → Call → Call → Type 0
StandsBefore key c d = (c.top ≡ d.top) ⊎ (lex (key c.top) (key d.top) ≡ true)

-- a call is of a top up to a place
abbrev pub up_to : (ℕ → List ℕ) → List ℕ → Call → Bool
up_to key place c = not (lex place (key c.top))

-- how often the top changes along these calls, behind one of this top
abbrev pub turns : Option ℕ → List Call → ℕ
turns last [] = 0
turns last (c ∷ cs) = cond (was last c.top) 0 1 + turns (Some c.top) cs

-- nothing stands behind a place that a call behind it stands before
lex_trans : (a b c : List ℕ) → lex a b ≡ true → lex b c ≡ true → lex a c ≡ true
lex_trans a b c e f = lex_then a b c e (lex_turn b c f)

not_true : (b : Bool) → b ≡ true → not b ≡ false
not_true true e = refl
not_true false e = cc e

not_false : (b : Bool) → b ≡ false → not b ≡ true
not_false true e = cc e
not_false false e = refl

-- none of the calls behind one that is past a place is up to it
none_up : (key : ℕ → List ℕ) (place : List ℕ) (c : Call) (cs : List Call) → lex place (key c.top) ≡ true →
    AllByRecursion (StandsBefore key c) cs → filter (up_to key place) cs ≡ []
none_up key place c [] past before = refl
none_up key place c (d ∷ cs) past before =
    (λ i. cond (not_true (lex place (key d.top)) (beyond before.0) i) (d ∷ filter (up_to key place) cs) (filter (up_to key place) cs))
    ∙ none_up key place c cs past before.1
  where
    beyond : StandsBefore key c d → lex place (key d.top) ≡ true
    beyond (inl same) = ap (λ t. lex place (key t)) (sym same) ∙ past
    beyond (inr less) = lex_trans place (key c.top) (key d.top) past less

-- the last top is up to a place, if there is one
abbrev pub LastIsUp : (ℕ → List ℕ) → List ℕ → Option ℕ → Type 0
LastIsUp key place None = Unit {0}
LastIsUp key place (Some t) = lex place (key t) ≡ false

was_other : (key : ℕ → List ℕ) (place : List ℕ) (last : Option ℕ) (t : ℕ) → LastIsUp key place last → lex place (key t) ≡ true →
    was last t ≡ false
was_other key place None t up past = refl
was_other key place (Some s) t up past = by (s == t) refl
  where
    by : (b : Bool) → (s == t) ≡ b → b ≡ false
    by true same = never (lex place (key t)) past (ap (λ u. lex place (key u)) (sym (eqb-true s t same)) ∙ up)
    by false other = refl

left_more : (again : Bool) (n : ℕ) → left_by again (cond again 0 1 + n) ≡ n
left_more true n = omega arith
left_more false n = omega arith

not_beyond : (again : Bool) (n : ℕ) → (not again && ((cond again 0 1 + n) == 0)) ≡ false
not_beyond true n = refl
not_beyond false n = more (1 + n) (omega arith)
  where
    more : (m : ℕ) → 0 < m → (m == 0) ≡ false
    more m lt = grind (arith, nat_tests)

-- the front by as many tops as those up to a place is of those
pub front_up : (key : ℕ → List ℕ) (place : List ℕ) (last : Option ℕ) (cs : List Call) → LastIsUp key place last → Pairwise (StandsBefore key) cs →
    front_from (λ (c : Call). c.top) last (turns last (filter (up_to key place) cs)) cs ≡ filter (up_to key place) cs
front_up key place last [] up sorted = refl
front_up key place last (c ∷ cs) up sorted = by (lex place (key c.top)) refl (λ e. front_up key place (Some c.top) cs e sorted.1)
  where
    fs : List Call
    fs = filter (up_to key place) cs

    front : Option ℕ → ℕ → List Call → List Call
    front = front_from (λ (d : Call). d.top)

    by : (b : Bool) → lex place (key c.top) ≡ b → (lex place (key c.top) ≡ false → front (Some c.top) (turns (Some c.top) fs) cs ≡ fs)
        → front last (turns last (cond (not b) (c ∷ fs) fs)) (c ∷ cs) ≡ cond (not b) (c ∷ fs) fs
    by true past ih =
        (λ i. front last (turns last (none_up key place c cs past sorted.0 i)) (c ∷ cs))
        ∙ (λ i. cond (not (was_other key place last c.top up past i) && true) [] (c ∷ front (Some c.top) (left_by (was last c.top) 0) cs))
        ∙ sym (none_up key place c cs past sorted.0)
    by false here ih =
        (λ i. cond (not_beyond (was last c.top) (turns (Some c.top) fs) i) [] (c ∷ front (Some c.top) (left_more (was last c.top) (turns (Some c.top) fs) i) cs))
        ∙ ap (λ ds. c ∷ ds) (ih here)

-- a call of no top up to the last one is past it
abbrev pub Behind : (ℕ → List ℕ) → Option ℕ → Call → Type 0
Behind key None c = Unit {0}
Behind key (Some t) c = (t ≡ c.top) ⊎ (lex (key t) (key c.top) ≡ true)

-- a place that the last top is up to
abbrev pub Reaches : (ℕ → List ℕ) → Option ℕ → List ℕ → Type 0
Reaches key None place = Unit {0}
Reaches key (Some t) place = lex place (key t) ≡ false

before_all : (key : ℕ → List ℕ) → ((t : ℕ) → lex [] (key t) ≡ true) → (cs : List Call) → filter (up_to key []) cs ≡ []
before_all key some [] = refl
before_all key some (c ∷ cs) =
    (λ i. cond (not_true (lex [] (key c.top)) (some c.top) i) (c ∷ filter (up_to key []) cs) (filter (up_to key []) cs)) ∙ before_all key some cs

-- the place behind which no top more may stand
abbrev pub last_place : (ℕ → List ℕ) → Option ℕ → List ℕ
last_place key None = []
last_place key (Some t) = key t

reaches_last : (key : ℕ → List ℕ) (last : Option ℕ) → Reaches key last (last_place key last)
reaches_last key None = tt
reaches_last key (Some t) = lex_same (key t)

none_left : (key : ℕ → List ℕ) (last : Option ℕ) (c : Call) (cs : List Call) → ((t : ℕ) → lex [] (key t) ≡ true) → was last c.top ≡ false →
    Behind key last c → AllByRecursion (StandsBefore key c) cs → filter (up_to key (last_place key last)) (c ∷ cs) ≡ []
none_left key None c cs some other behind before = before_all key some (c ∷ cs)
none_left key (Some t) c cs some other (inl same) before = never (t == c.top) (eq-eqb t c.top same) other
none_left key (Some t) c cs some other (inr past) before =
    (λ i. cond (not_true (lex (key t) (key c.top)) past i) (c ∷ filter (up_to key (key t)) cs) (filter (up_to key (key t)) cs))
    ∙ none_up key (key t) c cs past before

up_again : (key : ℕ → List ℕ) (last : Option ℕ) (c : Call) (place : List ℕ) → Behind key last c → lex place (key c.top) ≡ false → Reaches key last place
up_again key None c place behind up = tt
up_again key (Some t) c place (inl same) up = ap (λ u. lex place (key u)) same ∙ up
up_again key (Some t) c place (inr past) up = by (lex place (key t)) refl
  where
    by : (b : Bool) → lex place (key t) ≡ b → b ≡ false
    by false e = refl
    by true e = never (lex place (key c.top)) (lex_trans place (key t) (key c.top) e past) up

-- the front by some number of tops is up to some place
pub front_place : (key : ℕ → List ℕ) → ((t : ℕ) → lex [] (key t) ≡ true) → (last : Option ℕ) (n : ℕ) (cs : List Call) →
    AllByRecursion (Behind key last) cs → Pairwise (StandsBefore key) cs
    → (place : List ℕ) × Reaches key last place × (front_from (λ (c : Call). c.top) last n cs ≡ filter (up_to key place) cs)
front_place key some last n [] behind sorted = (last_place key last, reaches_last key last, refl)
front_place key some last n (c ∷ cs) behind sorted =
    by (not (was last c.top) && (n == 0)) refl (front_place key some (Some c.top) (left_by (was last c.top) n) cs sorted.0 sorted.1)
  where
    front : Option ℕ → ℕ → List Call → List Call
    front = front_from (λ (d : Call). d.top)

    and_not : (a b : Bool) → (not a && b) ≡ true → a ≡ false
    and_not true b e = cc e
    and_not false b e = refl

    by : (b : Bool) → (not (was last c.top) && (n == 0)) ≡ b
        → (place : List ℕ) × (lex place (key c.top) ≡ false) × (front (Some c.top) (left_by (was last c.top) n) cs ≡ filter (up_to key place) cs)
        → (place : List ℕ) × Reaches key last place × (cond b [] (c ∷ front (Some c.top) (left_by (was last c.top) n) cs) ≡ filter (up_to key place) (c ∷ cs))
    by true e ih = (last_place key last, reaches_last key last, sym (none_left key last c cs some (and_not (was last c.top) (n == 0) e) behind.0 sorted.0))
    by false e ih = (
      ih.0,
      up_again key last c ih.0 behind.0 ih.1,
      ap (λ ds. c ∷ ds) ih.2 ∙ (λ i. cond (sym (not_false (lex ih.0 (key c.top)) ih.1) i) (c ∷ filter (up_to key ih.0) cs) (filter (up_to key ih.0) cs)),
    )

-- How many tops made calls.

other_top : (key : ℕ → List ℕ) (c d : Call) (cs : List Call) → lex (key c.top) (key d.top) ≡ true → AllByRecursion (StandsBefore key d) cs →
    list_any (λ e. e.top == c.top) cs ≡ false
other_top key c d [] less before = refl
other_top key c d (e ∷ cs) less before = (λ i. apart before.0 i || other_top key c d cs less before.1 i)
  where
    past : StandsBefore key d e → lex (key c.top) (key e.top) ≡ true
    past (inl same) = ap (λ t. lex (key c.top) (key t)) (sym same) ∙ less
    past (inr more) = lex_trans (key c.top) (key d.top) (key e.top) less more

    apart : StandsBefore key d e → (e.top == c.top) ≡ false
    apart b = by (e.top == c.top) refl
      where
        by : (t : Bool) → (e.top == c.top) ≡ t → t ≡ false
        by false g = refl
        by true g = never (lex (key c.top) (key e.top)) (past b) (ap (λ t. lex (key c.top) (key t)) (eqb-true e.top c.top g) ∙ lex_same (key c.top))

-- calls whose tops stand one after another are of as many tops as they change
count_behind : (key : ℕ → List ℕ) (c : Call) (cs : List Call) → Pairwise (StandsBefore key) (c ∷ cs) →
    count_tops (c ∷ cs) ≡ turns (Some c.top) cs + 1
count_behind key c [] sorted = refl
count_behind key c (d ∷ cs) sorted = by (let s = sorted.0 in s.0) (count_behind key d cs sorted.1)
  where
    rest : ℕ
    rest = count_tops (d ∷ cs)

    by : StandsBefore key c d → rest ≡ turns (Some d.top) cs + 1 → count_tops (c ∷ d ∷ cs) ≡ turns (Some c.top) (d ∷ cs) + 1
    by (inl same) ih =
        (λ i. cond (eq-eqb d.top c.top (sym same) i || list_any (λ e. e.top == c.top) cs) rest (rest + 1)) ∙ ih
        ∙ plain (turns (Some d.top) cs) ∙ sym (λ i. (cond (eq-eqb c.top d.top same i) 0 1 + turns (Some d.top) cs) + 1)
      where
        plain : (n : ℕ) → n + 1 ≡ (0 + n) + 1
        plain n = omega arith
    by (inr less) ih =
        (λ i. cond (apart i || other_top key c d cs less (let s = sorted.1 in s.0) i) rest (rest + 1)) ∙ ap (λ n. n + 1) ih ∙ one_more (turns (Some d.top) cs)
        ∙ sym (λ i. (cond (turned i) 0 1 + turns (Some d.top) cs) + 1)
      where
        apart : (d.top == c.top) ≡ false
        apart = to (d.top == c.top) refl
          where
            to : (t : Bool) → (d.top == c.top) ≡ t → t ≡ false
            to false g = refl
            to true g = never (lex (key c.top) (key d.top)) less (ap (λ t. lex (key c.top) (key t)) (eqb-true d.top c.top g) ∙ lex_same (key c.top))

        turned : (c.top == d.top) ≡ false
        turned = to (c.top == d.top) refl
          where
            to : (t : Bool) → (c.top == d.top) ≡ t → t ≡ false
            to false g = refl
            to true g = never (lex (key c.top) (key d.top)) less (ap (λ t. lex (key c.top) (key t)) (sym (eqb-true c.top d.top g)) ∙ lex_same (key c.top))

        one_more : (n : ℕ) → (n + 1) + 1 ≡ (1 + n) + 1
        one_more n = omega arith

pub count_turns : (key : ℕ → List ℕ) (cs : List Call) → Pairwise (StandsBefore key) cs → count_tops cs ≡ turns None cs
count_turns key [] sorted = refl
count_turns key (c ∷ cs) sorted = count_behind key c cs sorted ∙ one_more (turns (Some c.top) cs)
  where
    one_more : (n : ℕ) → n + 1 ≡ 1 + n
    one_more n = omega arith
