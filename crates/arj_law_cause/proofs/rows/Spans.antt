-- Where an answer was made in the span of what was asked, the journal's row finds it.
use Rattle.arj_law_parts.proofs.Words
use Words.{⊎_elim, ◌≡◌, ◌⊎◌, ◌≤◌, ◌<◌, ◌∙◌, ◌+◌, ◌-◌, ◌==◌, ◌++◌, ◌&&◌, ◌||◌, ℕ, zero, suc, Bool, true, false, cond, List, [], ◌∷◌}
use Rattle.std.specs.Prelude.{drop}
use Rattle.arj_protocol.specs.Words.{FrameKind}
use Words.{length, take, Some, None, refl, sym, ap, inl, inr, arith, nat_lt, nat_tests, eqb-true, eq-eqb, list_any}
use Words.{length-append, In, if◌then◌else◌, Line, Op, Value, bytes_eq-Decides, class_code_of}
use Words.value
use Rattle.arj_protocol.specs.Words.op
use Rattle.arj_law_serial.proofs.Terms
use Terms.{Act, act_in, acts, any_in}
use Rattle.arj_law_lock_view.specs.moments.Made.{BeginsWith}
use Rattle.arj_model.specs.CauseSpans.{Here, answered, asking, asks_so, begins_with, from_place, holds_in, is_frame, same_frame, same_op}
use Rattle.arj_model.specs.CauseSpans.{same_pairs, same_value, was_sent}
use Rattle.arj_model.specs.Past.{Asked}
use Rattle.arj_model.specs.Refusals.{answers_to, asks_by, has_ended, holds_of, last_asked, unanswered}
use Rattle.std.proofs.Math.Seq.{drop-append_seam, take-append_seam}
use Rattle.std.specs.List.{range_with_len}

-- ---- tests

pub or_first : (a b : Bool) → a ≡ true → (a || b) ≡ true
or_first a b is = λ i. is i || b

pub or_last : (a b : Bool) → b ≡ true → (a || b) ≡ true
or_last true b is = refl
or_last false b is = is

-- ---- operations

pairs_same : (ps : List (ℕ × ℕ)) → same_pairs ps ps ≡ true
pairs_same [] = refl
pairs_same (p ∷ ps) = λ i. eq-eqb p.0 p.0 refl i && (eq-eqb p.1 p.1 refl i && pairs_same ps i)

value_same : (v : Value) → same_value v v ≡ true
value_same (value.Counter n) = eq-eqb n n refl
value_same (value.Register bytes) = (bytes_eq-Decides bytes bytes).1 refl
value_same (value.Account n) = eq-eqb n n refl
value_same (value.Queue ns) = (bytes_eq-Decides ns ns).1 refl
value_same (value.Table ps) = pairs_same ps
value_same (value.Gone c) = eq-eqb (class_code_of c) (class_code_of c) refl

-- an operation is the same as itself
pub op_same : (o : Op) → same_op o o ≡ true
op_same op.Get = refl
op_same (op.Add n) = eq-eqb n n refl
op_same (op.Set n) = eq-eqb n n refl
op_same (op.Put bytes) = (bytes_eq-Decides bytes bytes).1 refl
op_same (op.Deposit n) = eq-eqb n n refl
op_same (op.Withdraw n) = eq-eqb n n refl
op_same op.Len = refl
op_same (op.Push n) = eq-eqb n n refl
op_same op.Pop = refl
op_same (op.GetKey n) = eq-eqb n n refl
op_same (op.PutPair j n) = λ i. eq-eqb j j refl i && eq-eqb n n refl i
op_same (op.Remove n) = eq-eqb n n refl
op_same (op.Create v) = value_same v
op_same op.Destroy = refl

-- ---- places

pub in_range : (a n p : ℕ) → a ≤ p → p < a + n → In p (range_with_len a n)
in_range a zero p low high = absurd (omega (arith, low, high))
in_range a (suc n) p low high = by (a == p) refl (in_range (a + 1) n p)
  where
    next : a ≤ p → (a == p) ≡ false → a + 1 ≤ p
    next low off = grind (arith, nat_tests, low, off)

    by : (b : Bool) → (a == p) ≡ b → (a + 1 ≤ p → p < (a + 1) + n → In p (range_with_len (a + 1) n)) → In p (a ∷ range_with_len (a + 1) n)
    by true e ih = inl (eqb-true a p e)
    by false e ih = inr (ih (next low e) (omega (arith, high)))

any_behind : {A : Type 0} (f : A → Bool) (xs ys : List A) → list_any f ys ≡ true → list_any f (xs ++ ys) ≡ true
any_behind f [] ys is = is
any_behind f (x ∷ xs) ys is = or_last (f x) (list_any f (xs ++ ys)) (any_behind f xs ys is)

pub any_dropped : {A : Type 0} (f : A → Bool) (n : ℕ) (xs ys : List A) → n ≤ length xs → list_any f ys ≡ true →
    list_any f (drop n (xs ++ ys)) ≡ true
any_dropped f zero xs ys late is = any_behind f xs ys is
any_dropped f (suc n) [] ys late is = absurd (omega (arith, late))
any_dropped f (suc n) (x ∷ xs) ys late is = any_dropped f n xs ys (omega (arith, late)) is

-- what shows at a place in the span shows from its beginning on
pub shown_from : (h : Here) (a : ℕ) (shows : List Line → Bool) (before after : List Line) → h.lines ≡ before ++ after → a ≤ length before →
    shows before ≡ true → from_place h a shows ≡ true
shown_from h a shows before after are late is =
    any_in (λ p. shows (take p h.lines)) (length before) (range_with_len a (length h.lines + 1 - a))
    (in_range a (length h.lines + 1 - a) (length before) late (room (length before) (length after) (length h.lines) late
    (ap length are ∙ length-append before after)))
    (ap (λ ls. shows (take (length before) ls)) are ∙ ap shows (take-append_seam before after) ∙ is)
  where
    room : (b c l : ℕ) → a ≤ b → l ≡ b + c → b < a + (l + 1 - a)
    room b c l low is = omega (arith, low, is)

-- ---- an answer

module _ (h : Here) (a home n : ℕ) (what : FrameKind) (kinds : List FrameKind) (shows : List Line → Bool) (before after : List Line)
    (are : h.lines ≡ before ++ after) (late : a ≤ length before) (framed : (n ≡ home) ⊎ BeginsWith n home what after)
    (kind : list_any (same_frame what) kinds ≡ true) (is : shows before ≡ true) where
  long : length h.lines ≡ length before + length after
  long = ap length are ∙ length-append before after

  there : shows (take (length before) h.lines) ≡ true
  there = ap (λ ls. shows (take (length before) ls)) are ∙ ap shows (take-append_seam before after) ∙ is

  itself : (m : ℕ) → (m == m) ≡ true
  itself m = eq-eqb m m refl

  begins : (ls : List Line) → BeginsWith n home what ls → (begins_with (is_frame n home kinds) ls ≡ true) × (1 ≤ length ls)
  begins [] f = absurd f
  begins (line ∷ rest) f = (ap (is_frame n home kinds) f.1 ∙ (λ i. itself n i && (itself home i && kind i)), some (length rest))
    where
      some : (m : ℕ) → 1 ≤ suc m
      some m = omega arith

  alone : from_place h a shows ≡ true
  alone = shown_from h a shows before after are late is

  sent : BeginsWith n home what after → list_any (λ p. begins_with (is_frame n home kinds) (drop p h.lines) && shows (take p h.lines))
      (range_with_len a (length h.lines - a)) ≡ true
  sent f =
      let b = begins after f in
      any_in (λ p. begins_with (is_frame n home kinds) (drop p h.lines) && shows (take p h.lines)) (length before)
      (range_with_len a (length h.lines - a)) (in_range a (length h.lines - a) (length before) late
      (room (length before) (length after) (length h.lines) late long b.1))
      (λ i. (ap (λ ls. begins_with (is_frame n home kinds) (drop (length before) ls)) are
      ∙ ap (begins_with (is_frame n home kinds)) (drop-append_seam before after) ∙ b.0) i && there i)
    where
      room : (b c l : ℕ) → a ≤ b → l ≡ b + c → 1 ≤ c → b < a + (l - a)
      room b c l low is some = omega (arith, low, is, some)

  -- the node is the own one, or its frame was sent in the span
  pub sent_to : (n ≡ home) ⊎ (was_sent h a n home kinds ≡ true)
  sent_to = ⊎_elim (λ same. inl same) (λ f. inr (ap (λ ls. list_any (λ (line : Line). is_frame n home kinds line.body) (drop a ls)) are
      ∙ any_dropped (λ (line : Line). is_frame n home kinds line.body) a before after late (shown after f))) framed
    where
      shown : (ls : List Line) → BeginsWith n home what ls → list_any (λ (line : Line). is_frame n home kinds line.body) ls ≡ true
      shown [] f = absurd f
      shown (line ∷ rest) f = or_first (is_frame n home kinds line.body)
          (list_any (λ (line : Line). is_frame n home kinds line.body) rest) (begins (line ∷ rest) f).0

  pub answered_at : answered h a home n kinds shows ≡ true
  answered_at = by (n == home) refl
    where
      by : (b : Bool) → (n == home) ≡ b →
          cond b (from_place h a shows) (list_any (λ p. begins_with (is_frame n home kinds) (drop p h.lines) && shows (take p h.lines))
          (range_with_len a (length h.lines - a))) ≡ true
      by true e = alone
      by false e = ⊎_elim (λ same. let no_way : true ≡ false = sym (eq-eqb n home same) ∙ e in absurd (cc no_way)) (λ f. sent f) framed

-- ---- what a row asks

-- of the action with this label, and of what it asked, where it's open and waits for the answer
pub rows_so : (h : Here) (l : List ℕ) (a : Act) (k : Asked) (row : Act → Asked → Bool) → act_in (acts h.lines) l ≡ Some a →
    has_ended h.lines l ≡ false → length (asks_by h.accepted l) ≡ length (answers_to h.lines l) + 1 →
    last_asked (asks_by h.accepted l) ≡ Some k → row a k ≡ true → asks_so h l row ≡ true
rows_so h l a k row named open_yet more last is =
    ap (holds_of (λ b. holds_in (row b) (asking h l))) named ∙ ap (holds_in (row a)) waits ∙ is
  where
    fewer : (m n : ℕ) → n ≡ m + 1 → nat_lt m n ≡ true
    fewer m n is = grind (arith, nat_tests, is)

    waits : asking h l ≡ Some k
    waits = (λ i. if open_yet i then None else unanswered h.accepted h.lines l)
        ∙ (λ i. if fewer (length (answers_to h.lines l)) (length (asks_by h.accepted l)) more i then last_asked
        (asks_by h.accepted l) else None)
        ∙ last
