-- As a run begins each node has started in the machine.
use Rattle.arj_law_parts.proofs.Words
use Words.{Start, if◌then◌else◌, node_by, world_from, ◌≡◌, ◌≤◌, ◌<◌, ◌∙◌, ◌+◌, ◌⊎◌, ℕ, zero, suc, List, [], ◌∷◌, ◌==◌, Bool, true, false}
use Words.{cond, Option, Some, None, refl, sym, ap}
use Words.{subst, inl, inr, ⊎_elim, arith, length, map, is_some, slice_get, in_from, Header, Line, Uid, is_on, recovered_naming, Disk}
use Words.{Intent, Naming, Parts, at_number, Node, numbers_to, parts_in, at_place, new_tree, Post, Seen}
use Words.{see}
use Rattle.arj_law_lock_view.proofs.Terms
use Terms.{at, disk_by, Act, start, State, first_at, AreCallsOf, AreIncludesOf, included_on, said_on, NobodyConfirmed, KnowsEntry, Fixed}
use Terms.{view_of}
use Terms.{HasConfirm, HaveConfirms, IsConfirmedAt, IsFresh, SeesDown, SeesLocks, SeesMemory, WereConfirmed, AreTied}
use Terms.machine_run as machine
use Rattle.arj_law_lock_view.proofs.running
use running.{StartSteps.no_branch, StartSteps.started, TieSteps.IsMoved}
use running.OtherSteps.{SeesOthers, node_here, node_there, with_here}
use Rattle.arj_law_lock_view.proofs.view.{ServerSteps.servers_are_down, StartNamingSteps.naming_is_down}
use Rattle.arj_law_lock_view.specs.running.World.{FirstGoes}

module _ (hd : Header) (st : Start) (f : Fixed) (x : ℕ) (entry : KnowsEntry x 1 (disk_by hd st 1)) where
  -- a disk before its node starts
  abbrev before : ℕ → Disk
  before k = record (disk_by hd st k) { inc = st.incs k }

  -- nobody has started
  abbrev nobody : Seen
  nobody = record {
    start = st;
    sent = [];
    lines = [];
    labels = [];
    nodes = λ k. Some (record { number = k; disk = before k; live = None });
  }

  -- the memory that a node starts with
  abbrev parts_of : ℕ → Parts
  parts_of k = parts_in k (st.incs k + 1) (disk_by hd st k)

  -- the memory of a node as the run begins, by whether it is up
  abbrev live_if : ℕ → Bool → Option Parts
  live_if k b = if b then Some (parts_of k) else None

  -- the first nodes are as the run begins
  some_begun : ℕ → Seen
  some_begun zero = nobody
  some_begun (suc j) = at (j + 1) (disk_by hd st (j + 1)) (live_if (j + 1) (st.up (j + 1))) (some_begun j)

  fresh_start : IsFresh f [] (start f.first)
  fresh_start = record {
    actions = λ u un. record { stage = refl; request = refl; waits = refl; doomed = refl };
    units = λ n none. record {
      stage = refl;
      waits = refl;
      idle = λ a home its. record { stage = refl; waits = refl };
      kept = refl;
      calls = λ d there. absurd there;
      includes = λ d there. absurd there;
    };
  }

  down_start : (k : ℕ) → SeesDown (view_of f x [] k) (start f.first) (before k)
  down_start k = record {
    server = servers_are_down (view_of f x [] k) f.first (st.incs k);
    naming = λ one. naming_is_down f.first (st.incs k);
    tree = new_tree k 0;
    last = None;
    stopped = record {
      top = λ u is. absurd (cc is);
      each = λ u b there. absurd (no_branch k 0 u b there);
      units = λ u b there. absurd (no_branch k 0 u b there);
      others = λ u b a there. absurd (no_branch k 0 u b there);
    };
    decided = λ u is. absurd (cc is);
    home = λ u b there. absurd (no_branch k 0 u b there);
    past = λ a there. absurd (in_from a [] there);
    records = λ u i there. absurd (in_from {X = Uid × Intent} (u, i) [] there);
  }

  -- a node that is down may be so in the next incarnation
  down_next : (k : ℕ) (S : State) → SeesDown (view_of f x [] k) S (before k) → SeesDown (view_of f x [] k) S (disk_by hd st k)
  down_next k S s = record {
    server = let d = s.server in record { last = d.last; low = (let l = d.low in omega (arith, l)); empty = d.empty };
    naming = λ one. let n = s.naming one in record {
      bound = (let b = n.bound in omega (arith, b));
      first = (let b = n.first in omega (arith, b));
      recorded = (let b = n.recorded in omega (arith, b));
      empty = n.empty;
      nobody = n.nobody;
      made = n.made;
    };
    tree = s.tree;
    last = s.last;
    stopped = s.stopped;
    decided = s.decided;
    home = s.home;
    past = s.past;
    records = s.records;
  }

  -- who has begun, and who hasn't yet
  begun_at : (j k : ℕ) → 1 ≤ k → k ≤ j → (let N = some_begun j in N.nodes k) ≡ Some (node_by hd st k)
  unfolding some_begun
  begun_at zero k low high = absurd (omega (arith, low, high))
  begun_at (suc j) k low high = ⊎_elim
      (λ (same : k ≡ j + 1). subst (λ (i : ℕ). (let N = some_begun (suc j) in N.nodes i) ≡ Some (node_by hd st i)) (sym same)
      (node_here f x [] (j + 1) (disk_by hd st (j + 1)) (live_if (j + 1) (st.up (j + 1))) (some_begun j)))
      (λ (other : k ≡ j + 1 → ⊥). node_there f x [] (j + 1) (disk_by hd st (j + 1)) (live_if (j + 1) (st.up (j + 1))) (some_begun j) k
      other ∙ begun_at j k low (less k j high other))
      (equal k (j + 1))
    where
      equal : (a b : ℕ) → (a ≡ b) ⊎ (a ≡ b → ⊥)
      equal a b = grind arith

      less : (a b : ℕ) → a ≤ suc b → (a ≡ b + 1 → ⊥) → a ≤ b
      less a b le other = grind (arith, le, other)

  down_at : (j k : ℕ) → j < k → (let N = some_begun j in N.nodes k) ≡ Some (record { number = k; disk = before k; live = None })
  unfolding some_begun
  down_at zero k low = refl
  down_at (suc j) k low = node_there f x [] (j + 1) (disk_by hd st (j + 1)) (live_if (j + 1) (st.up (j + 1))) (some_begun j)
      k (λ same. omega (arith, same, low)) ∙ down_at j k (omega (arith, low))

  zero_down : (j : ℕ) → (let N = some_begun j in N.nodes 0) ≡ Some (record { number = 0; disk = before 0; live = None })
  unfolding some_begun
  zero_down zero = refl
  zero_down (suc j) = node_there f x [] (j + 1) (disk_by hd st (j + 1)) (live_if (j + 1) (st.up (j + 1))) (some_begun j) 0
      (λ same. omega (arith, same)) ∙ zero_down j

  none_decided : (k : ℕ) (S : State) (s : SeesDown (view_of f x [] k) S (before k)) → s.last ≡ None
  none_decided k S s = by s.last refl
    where
      by : (o : Option Uid) → s.last ≡ o → s.last ≡ None
      by None is = is
      by (Some u) is = absurd (let bad : false ≡ true = s.decided u is in cc bad)

  lines_none : (j : ℕ) → (let N = some_begun j in N.lines) ≡ []
  unfolding some_begun
  lines_none zero = refl
  lines_none (suc j) = lines_none j

  sent_none : (j : ℕ) → (let N = some_begun j in N.sent) ≡ []
  unfolding some_begun
  sent_none zero = refl
  sent_none (suc j) = sent_none j

  -- no line, and nothing is done
  tied_first : AreTied f x [] (start f.first)
  tied_first values is = record {
    now = omega arith;
    writer = is.0;
    first = is.1;
    calls = tt;
    includes = tt;
    ends = λ a there. absurd (in_from a [] there);
  }

  tied_still : (S T : State) → IsMoved S T → AreTied f x [] S → AreTied f x [] T
  tied_still S T moved tied values is = let t = tied values is in record {
    now = (let n = t.now in let e = moved.now in omega (arith, n, e));
    writer = t.writer;
    first = moved.initial ∙ t.first;
    calls = subst (λ cs. AreCallsOf f.act f.code (said_on x []) cs) (sym moved.calls) t.calls;
    includes = subst (λ cs. AreIncludesOf f.act (included_on x []) cs) (sym moved.includes) t.includes;
    ends = λ a there. absurd (in_from a [] there);
  }

  -- nobody has confirmed anyone, and nothing is prepared
  nobody_had : (S : State) (sent : List Post) (d : Disk) → NobodyConfirmed (start f.first) S → WereConfirmed f x S sent d
  nobody_had S sent d none u top on = absurd (let no_way : false ≡ true = sym (ap (λ (g : Act → Bool). g (f.act u)) none) ∙ on in cc no_way)

  none_down : (k : ℕ) (S : State) (sent : List Post) (inc : ℕ) → NobodyConfirmed (start f.first) S →
      HaveConfirms f x k S sent (record (disk_by hd st k) { inc = inc }) None
  none_down k S sent inc none = (who, λ one. nobody_had S sent (record (disk_by hd st k) { inc = inc }) none)
    where
      who : (u : Uid) → IsConfirmedAt u (record (disk_by hd st k) { inc = inc }) None → HasConfirm f x S sent u
      who u (inl prepared) = absurd (cc prepared)
      who u (inr (t, n, is, at, on)) = absurd (cc is)

  none_up : (k : ℕ) (S : State) (sent : List Post) → NobodyConfirmed (start f.first) S →
      HaveConfirms f x k S sent (disk_by hd st k) (Some (parts_of k))
  none_up k S sent none = (who, λ one. nobody_had S sent (disk_by hd st k) none)
    where
      who : (u : Uid) → IsConfirmedAt u (disk_by hd st k) (Some (parts_of k)) → HasConfirm f x S sent u
      who u (inl prepared) = absurd (cc prepared)
      who u (inr (t, n, is, at, on)) = absurd (by (k == 1) (ap (λ (z : Parts). z.naming) (one is) ∙ at))
        where
          one : ◌≡◌ {A = Option Parts} (Some (parts_of k)) (Some t) → parts_of k ≡ t
          one same = cc same

          by : (b : Bool) → cond b (Some (recovered_naming (st.incs k + 1) (let d = disk_by hd st k in d.names))) None ≡ Some n → ⊥
          by true its = (let no_way : false ≡ true = ap (λ (z : Naming). is_on z.confirmed u) (same its) ∙ on in cc no_way)
            where
              same : ◌≡◌ {A = Option Naming} (Some (recovered_naming (st.incs k + 1) (let d = disk_by hd st k in d.names))) (Some n) →
                  recovered_naming (st.incs k + 1) (let d = disk_by hd st k in d.names) ≡ n
              same q = cc q
          by false its = cc its

  -- so is the object seen in a world with no line
  abbrev IsBegunIn : Seen → Type 0
  IsBegunIn M = (S : State) × SeesLocks f x [] S M × AreTied f x [] S × NobodyConfirmed (start f.first) S

  -- the next node begins, up or down
  one_more : (j : ℕ) → IsBegunIn (some_begun j) → (b : Bool) → IsBegunIn (at (j + 1) (disk_by hd st (j + 1)) (live_if (j + 1) b)
      (some_begun j))
  one_more j h = by
    where
      k : ℕ
      k = j + 1

      others : SeesOthers f x [] k h.0 (some_begun j)
      others = let s = h.1 in record {
        run = s.run;
        nodes = λ i n other is. s.nodes i n is;
        absent = λ i other is. s.absent i is;
        confirms = λ i n other is. s.confirms i n is;
        posts = s.posts;
        fresh = s.fresh;
        now = s.now;
      }

      down_before : SeesDown (view_of f x [] k) h.0 (before k)
      down_before = let s = h.1 in s.nodes k _ (down_at j k (omega arith))

      by : (b : Bool) → IsBegunIn (at k (disk_by hd st k) (live_if k b) (some_begun j))
      by false = (
        h.0,
        with_here f x [] k (disk_by hd st k) None h.0 (some_begun j) others (down_next k h.0 down_before)
            (none_down k h.0 (let N = some_begun j in N.sent) (st.incs k + 1) h.3),
        h.2,
        h.3,
      )
      by true =
          let g = started f x [] k h.0 (before k) (some_begun j) others down_before (none_decided k h.0 down_before)
          (λ one inc. subst (λ (i : ℕ). is_some (at_number x (let n = recovered_naming inc (let d = disk_by hd st i in d.names) in
          n.objects))
          ≡ true) (sym one) (entry refl inc)) in (
            g.0,
            (let t = g.1 in with_here f x [] k (disk_by hd st k) (Some (parts_of k)) g.0 (some_begun j) t.others t.up
                (none_up k g.0 (let N = some_begun j in N.sent) (t.nobody ∙ h.3))),
            tied_still h.0 g.0 (let t = g.1 in t.moved) h.2,
            (let t = g.1 in t.nobody ∙ h.3),
          )

  first_seen : (j : ℕ) → IsBegunIn (some_begun j)
  unfolding some_begun
  first_seen zero = (
    start f.first,
    record {
      run = machine.stay;
      nodes = λ k n is. subst (λ (m : Node). SeesMemory (view_of f x [] k) (start f.first) m.disk m.live) (its k n is) (down_start k);
      absent = λ k is. absurd (cc is);
      confirms = λ k n is. subst (λ (m : Node). HaveConfirms f x k (start f.first) [] m.disk m.live) (its k n is)
          (none_down k (start f.first) [] (st.incs k) refl);
      posts = λ p there. absurd there;
      fresh = fresh_start;
      now = omega arith;
    },
    tied_first,
    refl,
  )
    where
      its : (k : ℕ) (n : Node) → ◌≡◌ {A = Option Node} (Some (record { number = k; disk = before k; live = None })) (Some n) →
          record { number = k; disk = before k; live = None } ≡ n
      its k n is = cc is
  first_seen (suc j) = one_more j (first_seen j) (st.up (j + 1))

  -- a place is within the list
  within : {A : Type 0} (items : List A) (k : ℕ) (a : A) → slice_get items k ≡ Some a → k < length items
  within {A} [] k a is = absurd (let no_way : ◌≡◌ {A = Option A} None (Some a) = is in cc no_way)
  within (i ∷ items) zero a is = omega arith
  within (i ∷ items) (suc k) a is = let h = within items k a is in omega (arith, h)

  abbrev all : List Node
  all = map (node_by hd st) (numbers_to hd.nodes)

  placed : (k : ℕ) (n : Node) → at_place k all ≡ Some n → (1 ≤ k) × (k ≤ length all)
  placed zero n is = absurd (let no_way : ◌≡◌ {A = Option Node} None (Some n) = is in cc no_way)
  placed (suc k) n is = (omega arith, (let h = within all k n is in omega (arith, h)))

  -- who has no place is behind the last one, or is 0
  outside : {A : Type 0} (items : List A) (k : ℕ) → slice_get items k ≡ None → length items ≤ k
  outside {A} [] k is = omega arith
  outside {A} (i ∷ items) zero is = absurd (let no_way : ◌≡◌ {A = Option A} (Some i) None = is in cc no_way)
  outside {A} (i ∷ items) (suc k) is = let h = outside items k is in omega (arith, h)

  still_down : (k : ℕ) → at_place k all ≡ None →
      (let N = some_begun (length all) in N.nodes k) ≡ Some (record { number = k; disk = before k; live = None })
  still_down zero is = zero_down (length all)
  still_down (suc k) is = down_at (length all) (suc k) (let h = outside all k is in omega (arith, h))

  pub first_goes_here : let M = see [] (world_from hd st) in (S : State) × SeesLocks f x [] S M × AreTied f x M.lines S
  first_goes_here =
      let h = first_seen (length all) in
      let s = h.1 in (
        h.0,
        record {
          run = s.run;
          nodes = λ k n is. (let p = placed k n is in s.nodes k n (begun_at (length all) k p.0 p.1 ∙ ap Some (first_at hd st k n is)));
          absent = λ k is. (before k, s.nodes k (record { number = k; disk = before k; live = None }) (still_down k is));
          confirms = λ k n is. (let p = placed k n is in subst (λ (ps : List Post). HaveConfirms f x k h.0 ps n.disk n.live)
              (sent_none (length all)) (s.confirms k n (begun_at (length all) k p.0 p.1 ∙ ap Some (first_at hd st k n is))));
          posts = λ p there. absurd there;
          fresh = s.fresh;
          now = subst (λ (ls : List Line). (let S = h.0 in S.now) ≤ length ls + 1) (lines_none (length all)) s.now;
        },
        h.2,
      )

pub first_goes : FirstGoes
first_goes hd st f x entry = first_goes_here hd st f x entry
