-- States behind fronts of writes are states that objects had.
use Rattle.std.proofs.Common.{◌≡◌, ◌≢◌, ◌<◌, ◌≤◌, ℕ, ◌+◌, List, [], ◌∷◌, ◌++◌, length, map, take, drop, get_or, Bool, true, false, cond, not, ◌==◌, ◌&&◌}
use Rattle.std.proofs.Common.{Option, Some, None, refl, sym, ◌∙◌, ap, subst, append_assoc, arith, inl, inr}
use Rattle.std.specs.Prelude.{MatchBool, filter}
use Rattle.std.specs.Int.{w64, from_be_bytes}
use Rattle.std.specs.List.{AllByRecursion, list_any}
use Rattle.std.specs.Option.{unwrap_or}
use Rattle.std.proofs.lemmas.Bool.{eqb-true}
use Rattle.std.proofs.lemmas.List.{append-nil, drop_all, drop_more, length-map, take_all, take_more}
use Rattle.std.proofs.lemmas.Nat.{from_be_bytes-to_be_bytes_8}
use Rattle.byteorder.specs.Endian.{big_bytes}
use Rattle.arj_base.specs.State.{StateInForm, class_bytes, format_mark, state_bytes}
use Rattle.arj_base.specs.Uid.{nobody, object, uid_bytes}
use Rattle.arj_base.specs.declared.state.Class.{Class}
use Rattle.arj_base.specs.declared.state.Format.{Format}
use Rattle.arj_base.specs.declared.state.Format.TheVariants.{One, Two}
use Rattle.arj_base.specs.declared.state.ObjectState.{ObjectState}
use Rattle.arj_base.specs.declared.uid.Uid.{Uid}
use Rattle.arj_check.specs.Keys.{HaveOwnKeys}
use Rattle.arj_clean.specs.States.{state_with}
use Rattle.arj_disk.specs.declared.slot.Role.TheVariants.{Store}
use Rattle.arj_journal.specs.declared.body.Line.{Line}
use Rattle.arj_journal.specs.declared.header.Header.{Header}
use Rattle.arj_last.proofs.Counts.{count_same, writer_same}
use Rattle.arj_last.specs.Survivors.{count_wrotes, writer_after, wrote_of}
use Rattle.arj_last.specs.declared.picked.Wrote.{Wrote}
use Rattle.arj_last.specs.declared.state.LastState.{LastState}
use Rattle.arj_law.proofs.Answers.{run_writes}
use Rattle.arj_law.proofs.Common.{Pairwise, all_map, pairwise_both, pairwise_map, pairwise_of}
use Rattle.arj_law.proofs.Last.{all_filtered}
use Rattle.arj_law.proofs.Moves.{all_arrange}
use Rattle.arj_model.specs.Calls.{Call, committed_calls, tops}
use Rattle.arj_model.specs.Disks.{Reading, held}
use Rattle.arj_model.specs.Last.{count_tops, first_values, writer_from, writes_of}
use Rattle.arj_model.specs.Serial.{lex, run, serial_calls, serial_key, serial_less, writes_on}
use Rattle.arj_past.proofs.Fronts.{StandsBefore, count_turns, front_place, front_up, up_to}
use Rattle.arj_past.specs.Behind.{IsBehind}
use Rattle.arj_past.specs.Past.{HoldsPast, IsPast, calls_to, state_to}
use Rattle.arj_past.specs.Rows.{front_from, left_by, was}
use Rattle.arj_replay.proofs.Keys.{lex_one}
use Rattle.arj_replay.proofs.Sorts.{in_order}

-- Lists.

filter_swap : {A : Type 0} (p q : A → Bool) (xs : List A) → filter p (filter q xs) ≡ filter q (filter p xs)
filter_swap p q [] = refl
filter_swap {A} p q (x ∷ xs) = by (p x) refl (q x) refl (filter_swap p q xs)
  where
    by : (b : Bool) → p x ≡ b → (d : Bool) → q x ≡ d → filter p (filter q xs) ≡ filter q (filter p xs) →
        filter p (cond d (x ∷ filter q xs) (filter q xs)) ≡ filter q (cond b (x ∷ filter p xs) (filter p xs))
    by true e true g ih = (λ i. cond (e i) (x ∷ ih i) (ih i)) ∙ sym (λ i. cond (g i) (x ∷ filter q (filter p xs)) (filter q (filter p xs)))
    by true e false g ih = ih ∙ sym (λ i. cond (g i) (x ∷ filter q (filter p xs)) (filter q (filter p xs)))
    by false e true g ih = (λ i. cond (e i) (x ∷ ih i) (ih i))
    by false e false g ih = ih

pairwise_filter : {A : Type 0} (R : A → A → Type 0) (p : A → Bool) (xs : List A) → Pairwise R xs → Pairwise R (filter p xs)
pairwise_filter R p [] h = tt
pairwise_filter {A} R p (x ∷ xs) h = by (p x) (pairwise_filter R p xs h.1)
  where
    by : (b : Bool) → Pairwise R (filter p xs) → Pairwise R (cond b (x ∷ filter p xs) (filter p xs))
    by true rest = (all_filtered (R x) p xs h.0, rest)
    by false rest = rest

filter_shorter : {A : Type 0} (p : A → Bool) (xs : List A) → length (filter p xs) ≤ length xs
filter_shorter p [] = omega arith
filter_shorter {A} p (x ∷ xs) = by (p x) (filter_shorter p xs)
  where
    by : (b : Bool) → length (filter p xs) ≤ length xs → length (cond b (x ∷ filter p xs) (filter p xs)) ≤ length (x ∷ xs)
    by true ih = omega (arith, ih)
    by false ih = omega (arith, ih)

count_shorter : (cs : List Call) → count_tops cs ≤ length cs
count_shorter [] = omega arith
count_shorter (c ∷ cs) = by (list_any (λ d. d.top == c.top) cs) (count_shorter cs)
  where
    by : (b : Bool) → count_tops cs ≤ length cs → cond b (count_tops cs) (count_tops cs + 1) ≤ length (c ∷ cs)
    by true ih = omega (arith, ih)
    by false ih = omega (arith, ih)

-- a front of what a function gives
pub front_map : {A B : Type 0} (top : B → ℕ) (f : A → B) (last : Option ℕ) (left : ℕ) (xs : List A) →
    front_from top last left (map f xs) ≡ map f (front_from (λ a. top (f a)) last left xs)
front_map top f last left [] = refl
front_map {A} {B} top f last left (x ∷ xs) =
    by (not (was last (top (f x))) && (left == 0)) (front_map top f (Some (top (f x))) (left_by (was last (top (f x))) left) xs)
  where
    more : List B
    more = front_from top (Some (top (f x))) (left_by (was last (top (f x))) left) (map f xs)

    of : List A
    of = front_from (λ a. top (f a)) (Some (top (f x))) (left_by (was last (top (f x))) left) xs

    by : (b : Bool) → more ≡ map f of → cond b [] (f x ∷ more) ≡ map f (cond b [] (x ∷ of))
    by true ih = refl
    by false ih = ap (λ ys. f x ∷ ys) ih

-- a front with an item more, and one that ends
pub front_on : {A : Type 0} (top : A → ℕ) (xs : List A) (i : ℕ) (d : A) (last : Option ℕ) (left : ℕ) → i < length xs →
    (not (was last (top (get_or xs i d))) && (left == 0)) ≡ false
    → take i xs ++ front_from top last left (drop i xs)
    ≡ take (i + 1) xs ++ front_from top (Some (top (get_or xs i d))) (left_by (was last (top (get_or xs i d))) left) (drop (i + 1) xs)
front_on {A} top xs i d last left lt free =
    ap (λ ys. take i xs ++ front_from top last left ys) (drop_more xs i d lt) ∙ (λ k. take i xs ++ cond (free k) [] (get_or xs i d ∷ more))
    ∙ sym (append_assoc (take i xs) (get_or xs i d ∷ []) more) ∙ sym (λ k. take_more xs i d lt k ++ more)
  where
    more : List A
    more = front_from top (Some (top (get_or xs i d))) (left_by (was last (top (get_or xs i d))) left) (drop (i + 1) xs)

pub front_over : {A : Type 0} (top : A → ℕ) (xs : List A) (i : ℕ) (d : A) (last : Option ℕ) (left : ℕ) → i < length xs →
    (not (was last (top (get_or xs i d))) && (left == 0)) ≡ true → take i xs ++ front_from top last left (drop i xs) ≡ take i xs
front_over {A} top xs i d last left lt over =
    ap (λ ys. take i xs ++ front_from top last left ys) (drop_more xs i d lt)
    ∙ (λ k. take i xs ++ cond (over k) [] (get_or xs i d ∷ front_from top (Some (top (get_or xs i d))) (left_by (was last (top (get_or xs i d))) left) (drop (i + 1) xs)))
    ∙ append-nil (take i xs)

pub front_all : {A : Type 0} (top : A → ℕ) (xs : List A) (i : ℕ) (last : Option ℕ) (left : ℕ) → length xs ≤ i →
    take i xs ++ front_from top last left (drop i xs) ≡ xs
front_all top xs i last left le =
    (λ k. take_all i xs le k ++ front_from top last left (drop_all i xs le k)) ∙ append-nil xs

-- The serial order.

module _ (lines : List Line) where
  abbrev pub key : ℕ → List ℕ
  key = serial_key (tops lines)

  some_key : (t : ℕ) → lex [] (key t) ≡ true
  some_key t = refl

  stands : (c d : Call) → (lex (key d.top) (key c.top) ≡ false) × HaveOwnKeys (tops lines) d c → StandsBefore key c d
  stands c d h = by (d.top == c.top) refl
    where
      by : (b : Bool) → (d.top == c.top) ≡ b → StandsBefore key c d
      by true same = inl (sym (eqb-true d.top c.top same))
      by false other = to (lex (key c.top) (key d.top)) refl
        where
          to : (b : Bool) → lex (key c.top) (key d.top) ≡ b → StandsBefore key c d
          to true less = inr less
          to false same = absurd (h.1 other (lex_one (key d.top) (key c.top) h.0 same))

  pub in_serial : AllByRecursion (λ c. AllByRecursion (λ d. HaveOwnKeys (tops lines) d c) (committed_calls lines)) (committed_calls lines) →
      Pairwise (StandsBefore key) (serial_calls lines)
  in_serial own =
      pairwise_map (λ c d. (lex (key d.top) (key c.top) ≡ false) × HaveOwnKeys (tops lines) d c) (StandsBefore key) stands (serial_calls lines)
      (pairwise_both (λ c d. lex (key d.top) (key c.top) ≡ false) (λ c d. HaveOwnKeys (tops lines) d c) (serial_calls lines)
      (in_order (λ (c : Call). key c.top) (committed_calls lines)) (pairwise_of (λ c d. HaveOwnKeys (tops lines) d c) (serial_calls lines)
      (all_arrange (λ c. AllByRecursion (λ d. HaveOwnKeys (tops lines) d c) (serial_calls lines)) less (committed_calls lines)
      (all_map (λ c. AllByRecursion (λ d. HaveOwnKeys (tops lines) d c) (committed_calls lines)) (λ c. AllByRecursion (λ d. HaveOwnKeys (tops lines) d c) (serial_calls lines))
      (λ c. all_arrange (λ d. HaveOwnKeys (tops lines) d c) less (committed_calls lines)) (committed_calls lines) own))))
    where
      less : Call → Call → Bool
      less = serial_less (tops lines)

  -- the writes on an object are
  pub writes_stand : (x : ℕ) → Pairwise (StandsBefore key) (serial_calls lines) → Pairwise (StandsBefore key) (writes_of lines x)
  writes_stand x = pairwise_filter (StandsBefore key) (writes_on x) (serial_calls lines)

  -- the writes up to a place
  pub writes_to : (x : ℕ) (place : List ℕ) → filter (writes_on x) (calls_to lines place) ≡ filter (up_to key place) (writes_of lines x)
  writes_to x place = filter_swap (writes_on x) (up_to key place) (serial_calls lines)

-- The bytes of a state.

-- what stands behind the format and the Uid
abbrev behind : Format → Class → ℕ → Uid → List ℕ → List ℕ
behind f c v w p = class_bytes f c ++ (big_bytes 8 v ++ (uid_bytes w ++ (big_bytes 2 (length p) ++ p)))

-- states with one spelling have one version
versions : (f g : Format) (u x : Uid) (c d : Class) (v m : ℕ) (w y : Uid) (p q : List ℕ) →
    format_mark f ++ (uid_bytes u ++ behind f c v w p) ≡ format_mark g ++ (uid_bytes x ++ behind g d m y q) → big_bytes 8 v ≡ big_bytes 8 m
versions One One u x c d v m w y p q e = ap (λ bytes. take 8 (drop 21 bytes)) e
versions Two Two u x c d v m w y p q e = ap (λ bytes. take 8 (drop 22 bytes)) e
versions One Two u x c d v m w y p q e = absurd (let third : 49 ≡ 50 = ap (λ b. get_or b 3 0) e in omega (arith, third))
versions Two One u x c d v m w y p q e = absurd (let third : 50 ≡ 49 = ap (λ b. get_or b 3 0) e in omega (arith, third))

one_version : (s t : ObjectState) → s.version < 18446744073709551616 → t.version < 18446744073709551616 → state_bytes s ≡ state_bytes t →
    s.version ≡ t.version
one_version s t few fewer e =
    sym (from_be_bytes-to_be_bytes_8 s.version few)
    ∙ ap (from_be_bytes w64) (versions s.format t.format s.uid t.uid s.class t.class s.version t.version s.writer t.writer s.payload t.payload e)
    ∙ from_be_bytes-to_be_bytes_8 t.version fewer

-- States behind writes.

from_none : (n : ℕ) → n ≡ 0 + n
from_none n = omega arith

-- the state behind the writes of the tops up to a place
pub is_state_to : (header : Header) (lines : List Line) (x : ℕ) (place : List ℕ) (ws : List Call) (s : LastState) → IsBehind header x ws s →
    ws ≡ filter (up_to (serial_key (tops lines)) place) (writes_of lines x)
    → state_with header.format x s.value s.version s.writer ≡ state_to header lines place x
is_state_to header lines x place ws s is are =
    let same : ws ≡ filter (writes_on x) (calls_to lines place) = are ∙ sym (writes_to lines x place) in
    let value : s.value ≡ run (first_values header) (calls_to lines place) x =
    is.value ∙ ap (λ cs. run (first_values header) cs x) same ∙ run_writes (first_values header) (first_values header) x (calls_to lines place) refl in
    let version : s.version ≡ 0 + count_tops (filter (writes_on x) (calls_to lines place)) =
    is.version ∙ ap count_tops same ∙ from_none (count_tops (filter (writes_on x) (calls_to lines place))) in
    let writer : s.writer ≡ writer_from nobody (filter (writes_on x) (calls_to lines place)) = is.writer ∙ ap (writer_from nobody) same in
    (λ i. state_with header.format x (value i) (version i) (writer i))

-- a state is one that its object had exactly where it is the one behind the front of as many tops as its version says
pub past_test : (b : Bool) (header : Header) (lines : List Line) (x : ℕ) (s : ObjectState) (last : LastState) →
    Pairwise (StandsBefore (serial_key (tops lines))) (serial_calls lines) → length (writes_of lines x) < 18446744073709551616 → StateInForm s →
    IsBehind header x (front_from (λ (c : Call). c.top) None s.version (writes_of lines x)) last
    → MatchBool b (state_bytes s ≡ state_bytes (state_with header.format x last.value last.version last.writer)) (state_bytes s ≢ state_bytes (state_with header.format x last.value last.version last.writer))
    → MatchBool b (IsPast header lines x (state_bytes s)) (IsPast header lines x (state_bytes s) → ⊥)
past_test true header lines x s last sorted few form is same =
    let ws = writes_of lines x in
    let found = front_place (serial_key (tops lines)) (some_key lines) None s.version ws (all_none ws) (writes_stand lines x sorted) in
    (found.0, same ∙ ap state_bytes (is_state_to header lines x found.0 (front_from (λ (c : Call). c.top) None s.version ws) last is found.2))
  where
    all_none : (cs : List Call) → AllByRecursion (λ c. Unit {0}) cs
    all_none [] = tt
    all_none (c ∷ cs) = (tt, all_none cs)
past_test false header lines x s last sorted few form is other = λ past.
    let key = serial_key (tops lines) in
    let ws = writes_of lines x in
    let place = past.0 in
    let fs = filter (up_to key place) ws in
    let stand = writes_stand lines x sorted in
    let many : count_tops (filter (writes_on x) (calls_to lines place)) ≡ count_tops fs = ap count_tops (writes_to lines x place) in
    let version : s.version ≡ 0 + count_tops (filter (writes_on x) (calls_to lines place)) =
    one_version s (state_to header lines place x) form.1 (omega (arith, many, count_shorter fs, filter_shorter (up_to key place) ws, few)) past.1 in
    let turned = count_turns key fs (pairwise_filter (StandsBefore key) (up_to key place) ws stand) in
    let front : front_from (λ (c : Call). c.top) None s.version ws ≡ fs =
    ap (λ n. front_from (λ (c : Call). c.top) None n ws) (version ∙ sym (from_none (count_tops (filter (writes_on x) (calls_to lines place)))) ∙ many ∙ turned)
    ∙ front_up key place None ws tt stand in
    other (past.1 ∙ sym (ap state_bytes (is_state_to header lines x place (front_from (λ (c : Call). c.top) None s.version ws) last is front)))

-- a front of what holds
pub all_front : {A : Type 0} (P : A → Type 0) (top : A → ℕ) (last : Option ℕ) (left : ℕ) (xs : List A) → AllByRecursion P xs →
    AllByRecursion P (front_from top last left xs)
all_front P top last left [] h = tt
all_front {A} P top last left (x ∷ xs) h =
    by (not (was last (top x)) && (left == 0)) (all_front P top (Some (top x)) (left_by (was last (top x)) left) xs h.1)
  where
    more : List A
    more = front_from top (Some (top x)) (left_by (was last (top x)) left) xs

    by : (b : Bool) → AllByRecursion P more → AllByRecursion P (cond b [] (x ∷ more))
    by true ih = tt
    by false ih = (h.0, ih)

-- the parts of a state behind writes
pub is_behind : (header : Header) (x : ℕ) (s : LastState) (rs : List Wrote) (ws : List Call) → rs ≡ map wrote_of ws →
    s.value ≡ run (first_values header) ws x → s.version ≡ count_wrotes rs → s.writer ≡ writer_after nobody rs → IsBehind header x ws s
is_behind header x s rs ws are value version writer = record {
  value = value;
  version = version ∙ ap count_wrotes are ∙ count_same ws;
  writer = writer ∙ ap (writer_after nobody) are ∙ writer_same nobody ws;
}

-- what a node holds of an object
pub held_past : (b : Bool) (header : Header) (lines : List Line) (read : Reading) (x : ℕ) (bytes : List ℕ) →
    Some bytes ≡ held read Store (object x) → MatchBool b (IsPast header lines x bytes) (IsPast header lines x bytes → ⊥)
    → MatchBool b (HoldsPast header lines read x) (HoldsPast header lines read x → ⊥)
held_past true header lines read x bytes is past = λ others e. subst (IsPast header lines x) (same_bytes bytes others (is ∙ e)) past
  where
    same_bytes : (s t : List ℕ) → Some s ≡ Some t → s ≡ t
    same_bytes s t e = ap (λ o. unwrap_or o []) e
held_past false header lines read x bytes is other = λ h. other (h bytes (sym is))

-- there are as many writes as are kept
pub few_writes : (rs : List Wrote) (ws : List Call) → rs ≡ map wrote_of ws → length rs < 18446744073709551616 → length ws < 18446744073709551616
few_writes rs ws are few = omega (arith, few, ap length are, length-map ws wrote_of)
