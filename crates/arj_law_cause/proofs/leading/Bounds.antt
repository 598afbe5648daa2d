-- How many frames a settle and a quiesce add, in words of the journal before them.
use Rattle.arj_law_parts.proofs.Words
use Words.{◌≡◌, ◌≤◌, ◌∙◌, ◌+◌, ◌*◌, ℕ, zero, suc, Bool, true, false, cond, List, [], ◌∷◌, length}
use Words.{refl, sym, ap, subst, arith, Some, length-append}
use Words.{Header, Node, Parts, World, Arm, at_place, counted, node_numbers, numbers_to, quiesce, settle, tick_all}
use Words.{is_quiet, most_frames}
use Words.body
use Rattle.arj_law_parts.proofs.Terms.{says as world_says}
use Rattle.arj_law_parts.specs.moves.Keeps.{Holds}
use Rattle.arj_law_runs.proofs.Terms.{acts}
use Rattle.arj_law_runs.proofs.follow.Telling.{frame_test, opens}
use Rattle.arj_law_runs.specs.addresses.Addresses.{GoWithin}
use Rattle.arj_law_cause.proofs.leading.Counts.{at_work, frames_led, frames_long, most_left, nodes_few, of_node}
use Rattle.arj_law_cause.proofs.leading.Loads as loads
use loads.{all_told, sum_of, times, times_is}
use Rattle.arj_law_cause.proofs.leading.Settles as settles
use settles.{KnownUp, Stood, all_in_world, quiesce_all, settle_all, stood_on, tick_cost}
use Rattle.arj_law_cause.proofs.leading.Worlds as worlds
use Rattle.arj_law_cause.proofs.leading.Waiting.{few_wait, who_wait}
use Rattle.arj_law_cause.proofs.quiesces.Ties as ties
use Rattle.arj_law_cause.proofs.told.Joined as joined
use Rattle.arj_law_cause.specs.rounds.Sends.{all_led, carries, is_hello, most_quiesced, most_settled, waiting}
use Rattle.arj_promise.specs.Runs.{HeaderFits}
use Rattle.arj_model.specs.Past.{Past}
use Rattle.arj_model.specs.Refusals.{open_frames}

-- a world of nodes of the header, of which the run so far tells which frames are open and carry a hello, which actions began, and which
-- wait
pub record IsSettling (hd : Header) (q : Past) (w : World) : Type 0 where
  pub stood : Stood hd (length (acts q.lines)) w
  pub header : w.header ≡ hd
  pub pending : open_frames q.lines ≡ opens 1 w.frames
  pub hellos : (k : ℕ) → carries is_hello q.lines k ≡ frame_test (λ from to what. is_hello what) (at_place k w.frames)
  pub works : (k : ℕ) (x : Node) → at_place k w.nodes ≡ Some x → (t : Parts) → x.live ≡ Some t →
      length (at_work t.coord.doings) ≤ of_node k (who_wait q)

pub settling_of : (hd : Header) (form : HeaderFits hd) (q : Past) (w : World) (s : joined.Inv hd form q w) → Holds hd KnownUp w →
    open_frames q.lines ≡ opens 1 w.frames →
    ((k : ℕ) → carries is_hello q.lines k ≡ frame_test (λ from to what. is_hello what) (at_place k w.frames)) → IsSettling hd q w
settling_of hd form q w s h pending hellos = record {
  stood = (
    h,
    subst (λ ks. length (acts w.lines) ≤ length (acts ks)) (sym (ties.same_lines hd form q w s)) (itself (length (acts w.lines))),
    λ n x there. (let t = ties.told hd form q w s in (t.placed.nodes n x there).0),
  );
  header = h.stands.header;
  pending = pending;
  hellos = hellos;
  works = λ k x there t live. few_wait hd form q w s h k x there t live;
}
  where
    itself : (a : ℕ) → a ≤ a
    itself a = omega arith

-- which stops are still to fall, and how many events were run, is nothing to it
pub settling_on : (hd : Header) (q : Past) (w : World) (arms : List (ℕ × Arm)) → IsSettling hd q w →
    IsSettling hd q (counted (record w { arms = arms }))
settling_on hd q w arms s = record {
  stood = stood_on hd (length (acts q.lines)) w arms s.stood;
  header = s.header;
  pending = s.pending;
  hellos = s.hellos;
  works = s.works;
}

pub numbers_long : (n : ℕ) → length (numbers_to n) ≡ n
numbers_long zero = refl
numbers_long (suc n) = length-append (numbers_to n) (suc n ∷ []) ∙ next (length (numbers_to n)) n (numbers_long n)
  where
    next : (x n : ℕ) → x ≡ n → x + 1 ≡ suc n
    next x n is = omega (arith, is)

-- what ticks of all nodes lead to
pub ticks_cost : (hd : Header) (a : ℕ) (w : World) → w.header ≡ hd →
    times (tick_cost hd.nodes a) (length (node_numbers w)) ≡ hd.nodes * ((hd.nodes * (hd.nodes + 5) + 5) * a)
ticks_cost hd a w same = ap (times (tick_cost hd.nodes a)) (numbers_long (let h = w.header in h.nodes)
    ∙ ap (λ (h : Header). h.nodes) same) ∙ cost hd.nodes a
  where
    cost : (n b : ℕ) → times (tick_cost n b) n ≡ n * ((n * (n + 5) + 5) * b)
    cost n b = times_is (tick_cost n b) n
        ∙ (λ i. ((times_is (2 + times 2 n) b i + times_is (all_told n) b i) + times_is (suc (suc (suc n))) b i) * n)
        ∙ (λ i. (((2 + times_is 2 n i) * b + times_is (suc (suc n)) n i * b) + suc (suc (suc n)) * b) * n) ∙ next n b
      where
        next : (n b : ℕ) → (((2 + 2 * n) * b + (suc (suc n) * n) * b) + suc (suc (suc n)) * b) * n ≡ n * ((n * (n + 5) + 5) * b)
        next n b = grind arith

module _ (hd : Header) (q : Past) (w : World) (s : IsSettling hd q w) where
  abbrev hello : ℕ
  hello = times (suc (suc (suc hd.nodes))) (length (acts q.lines))

  itself : (b : ℕ) → b ≤ b
  itself b = omega arith

  -- all that there is before it
  before_few : all_in_world hd (length (acts q.lines)) w ≤ length w.frames + most_settled hd q
  before_few = sum (sum_of (worlds.weight hd.nodes hello hello (itself hello)) w.frames)
      (sum_of (worlds.left_node hd.nodes hello hello (itself hello)) w.nodes) (length w.frames) (all_led hd q.lines (opens 1 w.frames))
      (all_led hd q.lines (open_frames q.lines)) (times (most_left hd.nodes) (length (who_wait q)))
      ((hd.nodes * (hd.nodes + 4) + 8) * waiting q)
      (frames_led hd q.lines hello w.frames hello (itself hello) (led hd.nodes (length (acts q.lines))) s.hellos)
      (ap (all_led hd q.lines) (sym s.pending))
      (nodes_few hd.nodes hello hello (itself hello) (who_wait q) w.nodes s.works)
      (left_so hd.nodes (length (who_wait q)))
    where
      sum : (f m l o p t c : ℕ) → f ≤ l + o → o ≡ p → m ≤ t → t ≡ c → f + m ≤ l + (p + c)
      sum f m l o p t c one two three four = omega (arith, one, two, three, four)

      led : (n b : ℕ) → times (suc (suc (suc n))) b ≤ (n + 3) * b
      led n b = less (times (suc (suc (suc n))) b) ((n + 3) * b) (times_is (suc (suc (suc n))) b ∙ next n b)
        where
          next : (n b : ℕ) → suc (suc (suc n)) * b ≡ (n + 3) * b
          next n b = grind arith

          less : (x y : ℕ) → x ≡ y → x ≤ y
          less x y is = omega (arith, is)

      left_so : (n b : ℕ) → times (most_left n) b ≡ (n * (n + 4) + 8) * b
      left_so n b = times_is (most_left n) b ∙ (λ i. ((8 + times_is 2 n i) + times_is (suc (suc n)) n i) * b) ∙ next n b
        where
          next : (n b : ℕ) → ((8 + 2 * n) + suc (suc n) * n) * b ≡ (n * (n + 4) + 8) * b
          next n b = grind arith

  abbrev AddsOf : ℕ → World → Type 0
  AddsOf c v = length v.frames ≤ length w.frames + c

  long : (v : World) → GoWithin hd.nodes v → length v.frames ≤ all_in_world hd (length (acts q.lines)) v
  long v within = more (length v.frames) (sum_of (worlds.weight hd.nodes hello hello (itself hello)) v.frames)
      (sum_of (worlds.left_node hd.nodes hello hello (itself hello)) v.nodes)
      (frames_long hd.nodes hello hello (itself hello) v.frames within)
    where
      more : (x y z : ℕ) → x ≤ y → x ≤ y + z
      more x y z le = omega (arith, le)

  pub settle_adds : GoWithin hd.nodes (settle w) → AddsOf (most_settled hd q) (settle w)
  settle_adds within = three (length (settle w).frames) (all_in_world hd (length (acts q.lines)) (settle w))
      (all_in_world hd (length (acts q.lines)) w) (length w.frames + most_settled hd q) (long (settle w) within)
      (settle_all hd (length (acts q.lines)) most_frames w s.stood).0 before_few
    where
      three : (x y z u : ℕ) → x ≤ y → y ≤ z → z ≤ u → x ≤ u
      three x y z u one two le = omega (arith, one, two, le)

  pub quiesce_adds : GoWithin hd.nodes (quiesce w) → AddsOf (most_quiesced hd q) (quiesce w)
  quiesce_adds within = by v.full within
    where
      v : World
      v = settle (tick_all (node_numbers w) (settle w))

      all : GoWithin hd.nodes v → AddsOf (most_quiesced hd q) v
      all inside = sum (length v.frames) (all_in_world hd (length (acts q.lines)) v) (all_in_world hd (length (acts q.lines)) w) (length
          w.frames)
          (most_settled hd q) (times (tick_cost hd.nodes (length (acts q.lines))) (length (node_numbers w)))
          (hd.nodes * ((hd.nodes * (hd.nodes + 5) + 5) * length (acts q.lines))) (long v inside)
          (quiesce_all hd (length (acts q.lines)) w s.stood) before_few (ticks_cost hd (length (acts q.lines)) w s.header)
        where
          sum : (x y z l m t c : ℕ) → x ≤ y → y ≤ z + t → z ≤ l + m → t ≡ c → x ≤ l + (m + c)
          sum x y z l m t c one two three is = omega (arith, one, two, three, is)

      by : (b : Bool) → GoWithin hd.nodes (cond b v (world_says (body.Quiet (is_quiet v) ∷ []) v)) →
          AddsOf (most_quiesced hd q) (cond b v (world_says (body.Quiet (is_quiet v) ∷ []) v))
      by true inside = all inside
      by false inside = all inside
