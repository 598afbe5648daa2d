-- The world as a run begins, seen as the disk machine has an object at first.
use Rattle.arj_law_parts.proofs.Words
use Words.{◌≡◌, ◌⊎◌, ◌<◌, ℕ, zero, suc, ◌+◌, ◌==◌, List, [], ◌∷◌, ◌++◌, Bool, true, false, cond, Option, Some, None, refl, sym, ◌∙◌, ap}
use Words.{subst, inl, inr, ⊎_elim, eqb-true, map, filter, if◌then◌else◌, option_map, AllByRecursion, uid_cases, uid_eq, uid_is, uid_same}
use Words.{in_from, Uid, ◌&&◌, nat_lt, and_parts, arith, ltb-true}
use Rattle.std.proofs.Common.{lt-ltb}
use Words.{Header, ObjectLine, ObjectState, object, entry, Doing, doing_of, new_coord, held_at, Naming, recovered_naming, Parts, at_uid}
use Words.{put_uid, uid_number, number_tells, Node, node_by, numbers_to, parts_in, put_states, Branch, at_place, branch_of, is_own}
use Words.{entry_back}
use Words.{Start, IsFormed, world_from, see}
use Words.list
use Words.order
use Rattle.arj_law_disk_view.proofs.Terms
use Terms.{World, State, Packed, Plan, In, never, some_is, SeesRecords, SeesEntry, HasObject, Among, packed, packed_entry, IsAlong, Kinds}
use Terms.{SeesDisks, SeesCoord, SeesNotes, SeesConfirmed, SeesStore, first_at, first_up, disk_by, entry_by, older_at, state_by}
use Terms.{states_from}
use Terms.disk
use Rattle.arj_law_disk.proofs.machine.Results.{first_is_whole}
use Rattle.arj_law_disk.specs.machine.{Laws.IsFirst, State.IsPast}
use Rattle.arj_law_disk_view.proofs.view.Planned.{has_same}
use Rattle.arj_law_disk_view.specs.view.Formats.{IsLine}
use Rattle.arj_promise.specs.Starts.{AreOne, IsBefore, IsOlder}
use Rattle.arj_law_disk_view.proofs.view.Keys as keys

-- ---- states that are put in their places

puts_none : (u : Uid) (ss : List ObjectState) (m : List (Uid × ObjectState)) → ((s : ObjectState) → Among s ss → s.uid ≡ u → ⊥) →
    at_uid u (put_states ss m) ≡ at_uid u m
puts_none u [] m none = refl
puts_none u (s ∷ ss) m none =
    puts_none u ss (put_uid s.uid s m) (λ r among. none r (inr among)) ∙ keys.put_other u s.uid s m (λ same. none s (inl refl) (sym same))

puts_one : (u : Uid) (st : ObjectState) (ss : List ObjectState) (m : List (Uid × ObjectState)) → st.uid ≡ u →
    ((s : ObjectState) → Among s ss → s.uid ≡ u → s ≡ st) → Among st ss ⊎ (at_uid u m ≡ Some st) → at_uid u (put_states ss m) ≡ Some st
puts_one u st [] m of one (inl among) = absurd among
puts_one u st [] m of one (inr there) = there
puts_one u st (s ∷ ss) m of one there = puts_one u st ss (put_uid s.uid s m) of (λ r among. one r (inr among)) (later there)
  where
    put_here : s ≡ st → at_uid u (put_uid s.uid s m) ≡ Some st
    put_here same = ap (λ w. at_uid w (put_uid s.uid s m)) (sym of ∙ ap (λ (q : ObjectState). q.uid) (sym same)) ∙ keys.put_same s.uid s m
        ∙ ap Some same

    later : Among st (s ∷ ss) ⊎ (at_uid u m ≡ Some st) → Among st ss ⊎ (at_uid u (put_uid s.uid s m) ≡ Some st)
    later (inl (inl same)) = inr (put_here same)
    later (inl (inr more)) = inl more
    later (inr old) = ⊎_elim (λ same. inr (put_here (one s (inl refl) (sym same)))) (λ other. inr (keys.put_other u s.uid s m other ∙ old))
        (uid_cases u s.uid)

abbrev AreKeyed : List (Uid × ObjectState) → Type 0
AreKeyed m = (w : Uid) (s : ObjectState) → at_uid w m ≡ Some s → s.uid ≡ w

puts_keyed : (ss : List ObjectState) (m : List (Uid × ObjectState)) → AreKeyed m → AreKeyed (put_states ss m)
puts_keyed [] m keyed = keyed
puts_keyed (s ∷ ss) m keyed = puts_keyed ss (put_uid s.uid s m) (λ w r is. ⊎_elim
    (λ here. ap (λ (q : ObjectState). q.uid) (sym here.1) ∙ sym here.0) (λ other. keyed w r other.1) (keys.put_cases w s.uid s r m is))

none_keyed : AreKeyed []
none_keyed w s is = absurd (cc is)

-- ---- lines as states

from_lines : (f : ObjectLine → ObjectState) (os : List ObjectLine) (s : ObjectState) → Among s (map f os) →
    (o : ObjectLine) × IsLine o os × (f o ≡ s)
from_lines f [] s among = absurd among
from_lines f (o ∷ os) s (inl same) = (o, inl refl, same)
from_lines f (o ∷ os) s (inr more) = let r = from_lines f os s more in (r.0, inr r.1, r.2)

to_states : (f : ObjectLine → ObjectState) (os : List ObjectLine) (o : ObjectLine) → IsLine o os → Among (f o) (map f os)
to_states f [] o is = absurd is
to_states f (p ∷ ps) o (inl same) = inl (ap f same)
to_states f (p ∷ ps) o (inr more) = inr (to_states f ps o more)

line_left : (g : ObjectLine → Bool) (os : List ObjectLine) (o : ObjectLine) → IsLine o (filter g os) → IsLine o os × (g o ≡ true)
line_left g [] o is = absurd is
line_left g (p ∷ ps) o is = by (g p) refl is (line_left g ps o)
  where
    by : (b : Bool) → g p ≡ b → IsLine o (cond b (p ∷ filter g ps) (filter g ps)) → (IsLine o (filter g ps) → IsLine o ps × (g o ≡ true)) →
        IsLine o (p ∷ ps) × (g o ≡ true)
    by true e (inl same) ih = (inl same, ap g (sym same) ∙ e)
    by true e (inr more) ih = let r = ih more in (inr r.0, r.1)
    by false e more ih = let r = ih more in (inr r.0, r.1)

line_stays : (g : ObjectLine → Bool) (os : List ObjectLine) (o : ObjectLine) → IsLine o os → g o ≡ true → IsLine o (filter g os)
line_stays g [] o is on = absurd is
line_stays g (p ∷ ps) o is on = by (g p) refl is (λ more. line_stays g ps o more on)
  where
    by : (b : Bool) → g p ≡ b → IsLine o (p ∷ ps) → (IsLine o ps → IsLine o (filter g ps)) →
        IsLine o (cond b (p ∷ filter g ps) (filter g ps))
    by true e (inl same) ih = inl same
    by true e (inr more) ih = inr (ih more)
    by false e (inl same) ih = absurd (never (ap g same ∙ on) e)
    by false e (inr more) ih = ih more

-- ---- where states come from

-- what is held after states are put is one of them, or was held before
puts_from : (ss : List ObjectState) (m : List (Uid × ObjectState)) (u : Uid) (s : ObjectState) → at_uid u (put_states ss m) ≡ Some s →
    Among s ss ⊎ (at_uid u m ≡ Some s)
puts_from [] m u s is = inr is
puts_from (t ∷ ts) m u s is = ⊎_elim (λ among. inl (inr among))
    (λ put. ⊎_elim (λ here. inl (inl here.1)) (λ other. inr other.1) (keys.put_cases u t.uid t s m put))
    (puts_from ts (put_uid t.uid t m) u s is)

-- a state is of the first list or of the second
among_both : (ss ts : List ObjectState) (s : ObjectState) → Among s (ss ++ ts) → Among s ss ⊎ Among s ts
among_both [] ts s among = inr among
among_both (r ∷ rs) ts s (inl same) = inl (inl same)
among_both (r ∷ rs) ts s (inr more) = ⊎_elim (λ a. inl (inr a)) (λ b. inr b) (among_both rs ts s more)

among_right : (ss ts : List ObjectState) (s : ObjectState) → Among s ts → Among s (ss ++ ts)
among_right [] ts s among = among
among_right (r ∷ rs) ts s among = inr (among_right rs ts s among)

-- an older state at a store stands in the list of all
older_among : (n : ℕ) (ss : List (ℕ × ObjectState)) (s : ObjectState) → Among s (older_at n ss) → In (n, s) ss
older_among n [] s among = absurd among
older_among n (p ∷ ps) s among = by (p.0 == n) refl among (older_among n ps s)
  where
    by : (b : Bool) → (p.0 == n) ≡ b → Among s (if b then p.1 ∷ older_at n ps else older_at n ps) →
        (Among s (older_at n ps) → In (n, s) ps) → In (n, s) (p ∷ ps)
    by true e (inl same) ih = inl (λ i. (eqb-true p.0 n e i, same i))
    by true e (inr more) ih = inr (ih more)
    by false e more ih = inr (ih more)

all_stand : {X : Type 0} (P : X → Type 0) (xs : List X) → AllByRecursion P xs → (x : X) → In x xs → P x
all_stand P [] all x i = absurd i
all_stand P (y ∷ ys) all x (inl same) = subst P same all.0
all_stand P (y ∷ ys) all x (inr more) = all_stand P ys all.1 x more

as_line : (o : ObjectLine) (os : List ObjectLine) → list.In o os → IsLine o os
as_line o [] i = absurd i
as_line o (p ∷ ps) (inl same) = inl same
as_line o (p ∷ ps) (inr more) = inr (as_line o ps more)

-- it is a state of object x, of a version below this one
abbrev is_past : ℕ → ℕ → ObjectState → Bool
is_past x last s = uid_eq s.uid (object x) && nat_lt s.version last

-- the states of object x of versions below this one, as the machine has them
abbrev pub past_of : ℕ → ℕ → List (ℕ × ObjectState) → List Packed
past_of x last [] = []
past_of x last (p ∷ ps) = if is_past x last p.1 then packed p.1 ∷ past_of x last ps else past_of x last ps

-- what is one of them is so, and stands in the list of all
pub record IsPastOf (x last : ℕ) (ps : List (ℕ × ObjectState)) (g : Packed) : Type 0 where
  pub at : ℕ × ObjectState
  pub there : In at ps
  pub of : at.1.uid ≡ object x
  pub below : at.1.version < last
  pub is : packed at.1 ≡ g

-- each is one of them
pub past_from : (x last : ℕ) (ps : List (ℕ × ObjectState)) (g : Packed) → In g (past_of x last ps) → IsPastOf x last ps g
past_from x last [] g i = absurd i
past_from x last (p ∷ ps) g i = by (is_past x last p.1) refl i
    (λ more. let r = past_from x last ps g more in record { at = r.at; there = inr r.there; of = r.of; below = r.below; is = r.is })
  where
    by : (b : Bool) → is_past x last p.1 ≡ b → In g (if b then packed p.1 ∷ past_of x last ps else past_of x last ps) →
        (In g (past_of x last ps) → IsPastOf x last (p ∷ ps) g) → IsPastOf x last (p ∷ ps) g
    by true e (inl same) ih = let both = and_parts (uid_eq p.1.uid (object x)) (nat_lt p.1.version last) e in record {
      at = p;
      there = inl refl;
      of = uid_is p.1.uid (object x) both.0;
      below = ltb-true p.1.version last both.1;
      is = same;
    }
    by true e (inr more) ih = ih more
    by false e more ih = ih more

past_in : (x last : ℕ) (ps : List (ℕ × ObjectState)) (p : ℕ × ObjectState) → In p ps → p.1.uid ≡ object x → p.1.version < last →
    In (packed p.1) (past_of x last ps)
past_in x last [] p i of less = absurd i
past_in x last (q ∷ qs) p i of less = by (is_past x last q.1) refl i (λ more. past_in x last qs p more of less)
  where
    by : (b : Bool) → is_past x last q.1 ≡ b → In p (q ∷ qs) → (In p qs → In (packed p.1) (past_of x last qs)) →
        In (packed p.1) (if b then packed q.1 ∷ past_of x last qs else past_of x last qs)
    by true e (inl same) ih = inl (ap (λ (r : ℕ × ObjectState). packed r.1) same)
    by true e (inr more) ih = inr (ih more)
    by false e (inl same) ih =
        let is : uid_eq p.1.uid (object x) ≡ true = ap (λ w. uid_eq w (object x)) of ∙ uid_same (object x) in
        let under : nat_lt p.1.version last ≡ true = lt-ltb p.1.version last less in
        let both : is_past x last p.1 ≡ true = λ i. is i && under i in
        absurd (never (ap (λ (r : ℕ × ObjectState). is_past x last r.1) same ∙ both) e)
    by false e (inr more) ih = ih more

-- ---- the object

module _ (hd : Header) (st : Start) (formed : IsFormed hd st) (x : ℕ) (tops : Kinds) (has_it : HasObject hd x) where
  abbrev line : ObjectLine
  line = has_it.line

  -- the state and the entry of a line, by its marks
  abbrev state_of : ObjectLine → ObjectState
  state_of o = state_by hd.format (st.marks.states o.x) o

  abbrev entry_of : ObjectLine → ObjectState
  entry_of o = entry_by hd.format (st.marks.entries o.x) o

  abbrev first_entry : Packed
  first_entry = let m = st.marks.entries line.x in record { version = m.version; writer = uid_number m.writer; content = line.stores }

  abbrev pub last_version : ℕ
  last_version = let m = st.marks.states line.x in m.version

  abbrev no_plan : Plan
  no_plan = record { writes = None; list = []; joins = []; loaded = packed (state_of line) }

  abbrev pub S : State
  S = record {
    first = packed (state_of line);
    past = past_of x last_version st.older;
    first_entry = first_entry;
    root = tops.root;
    serial = tops.is_serial;
    stage = λ t. disk.Idle;
    plan = λ t. no_plan;
    begun = λ t. false;
    got = λ t s. false;
    intent = λ t. None;
    bare = λ t. false;
    tops = [];
    held = λ s. option_map packed (held_at (object x) (disk_by hd st s).store);
    pend = λ s. None;
    went = λ t s. false;
    entry = first_entry;
    entry_pend = None;
    conf = λ t. false;
    light = λ t. false;
  }

  -- ---- older states

  pub older_is : (p : ℕ × ObjectState) → In p st.older → IsOlder hd st p
  older_is p i = all_stand (IsOlder hd st) st.older formed.older p i

  -- of the object they are of its line
  older_line : (p : ℕ × ObjectState) (o : IsOlder hd st p) → p.1.uid ≡ object x → o.line ≡ line
  older_line p o of = has_it.once o.line (as_line o.line hd.objects (in_from o.line hd.objects o.there))
      (ap (λ (u : Uid). u.num) (sym o.of ∙ of))

  are_one : (p q : ℕ × ObjectState) → In p st.older → In q st.older → AreOne p.1 q.1
  are_one p q i j = all_stand (λ (b : ℕ × ObjectState). AreOne p.1 b.1) st.older
      (all_stand (λ (a : ℕ × ObjectState). AllByRecursion (λ (b : ℕ × ObjectState). AreOne a.1 b.1) st.older) st.older formed.one p i) q j

  -- where such a state isn't the last one, it is from before it
  older_was : (p : ℕ × ObjectState) → In p st.older → p.1.uid ≡ object x →
      (p.1 ≡ state_of line) ⊎ IsBefore p.1 (st.marks.states line.x)
  older_was p i of = let o = older_is p i in
      subst (λ (l : ObjectLine). (p.1 ≡ state_of l) ⊎ IsBefore p.1 (st.marks.states l.x)) (older_line p o of) o.was

  past_is : IsPast S.first S.past
  past_is = record {
    below = λ g i. let p = past_from x last_version st.older g i in
        subst (λ (z : Packed). z.version < S.first.version) p.is p.below;
    version = λ g h i j same. let p = past_from x last_version st.older g i in let q = past_from x last_version st.older h j in
        sym p.is ∙ ap packed ((are_one p.at q.at p.there q.there).version (p.of ∙ sym q.of)
        (ap (λ (z : Packed). z.version) p.is ∙ same ∙ ap (λ (z : Packed). z.version) (sym q.is))) ∙ q.is;
    writer = writers;
  }
    where
      -- none of them is by who wrote the last state
      other : (g : Packed) → In g S.past → g.writer ≡ S.first.writer → ⊥
      other g i same = let p = past_from x last_version st.older g i in ⊎_elim
          (λ (last : p.at.1 ≡ state_of line). let less = p.below in
          let is = ap (λ (s : ObjectState). s.version) last in omega (arith, less, is))
          (λ (before : IsBefore p.at.1 (st.marks.states line.x)). before.other (number_tells p.at.1.writer (state_of line).writer
          (ap (λ (z : Packed). z.writer) p.is ∙ same)))
          (older_was p.at p.there p.of)

      writers : (g h : Packed) → In g (S.first ∷ S.past) → In h (S.first ∷ S.past) → g.writer ≡ h.writer → g ≡ h
      writers g h (inl a) (inl b) same = sym a ∙ b
      writers g h (inl a) (inr j) same = absurd (other h j (sym same ∙ ap (λ (z : Packed). z.writer) (sym a)))
      writers g h (inr i) (inl b) same = absurd (other g i (same ∙ ap (λ (z : Packed). z.writer) (sym b)))
      writers g h (inr i) (inr j) same =
          let p = past_from x last_version st.older g i in
          let q = past_from x last_version st.older h j in
          sym p.is ∙ ap packed ((are_one p.at q.at p.there q.there).writer (p.of ∙ sym q.of) (number_tells p.at.1.writer q.at.1.writer
          (ap (λ (z : Packed). z.writer) p.is ∙ same ∙ ap (λ (z : Packed). z.writer) (sym q.is)))) ∙ q.is

  -- ---- what stores hold

  abbrev listed_at : ℕ → List ObjectLine
  listed_at s = filter (λ (o : ObjectLine). order.has o.stores s) hd.objects

  num_of : (o : ObjectLine) → (state_of o).uid ≡ object x → o.x ≡ x
  num_of o same = ap (λ (u : Uid). u.num) same

  -- a state of the object at a store is the last one, where the store is listed, or an older one
  from_store : (s : ℕ) (q : ObjectState) → Among q (states_from s hd st) → q.uid ≡ object x →
      (In (s, q) st.older) ⊎ ((q ≡ state_of line) × (order.has line.stores s ≡ true))
  from_store s q among of = ⊎_elim (λ old. inl (older_among s st.older q old)) (λ new. inr (is_last new))
      (among_both (older_at s st.older) (map state_of (listed_at s)) q among)
    where
      is_last : Among q (map state_of (listed_at s)) → (q ≡ state_of line) × (order.has line.stores s ≡ true)
      is_last new =
          let f = from_lines state_of (listed_at s) q new in
          let l = line_left (λ (o : ObjectLine). order.has o.stores s) hd.objects f.0 f.1 in
          let same : f.0 ≡ line = has_it.once f.0 l.0 (num_of f.0 (ap (λ (r : ObjectState). r.uid) f.2 ∙ of)) in
          (sym f.2 ∙ ap state_of same, ap (λ (o : ObjectLine). order.has o.stores s) (sym same) ∙ l.1)

  -- a listed store holds the last one
  held_listed : (s : ℕ) → order.has line.stores s ≡ true → held_at (object x) (disk_by hd st s).store ≡ Some (state_of line)
  held_listed s on = puts_one (object x) (state_of line) (states_from s hd st) [] (ap object has_it.is)
      (λ q among of. ⊎_elim (λ old. absurd (unlisted q old of)) (λ new. new.0) (from_store s q among of))
      (inl (among_right (older_at s st.older) (map state_of (listed_at s)) (state_of line) (to_states state_of (listed_at s) line
      (line_stays (λ (o : ObjectLine). order.has o.stores s) hd.objects line has_it.there on))))
    where
      unlisted : (q : ObjectState) → In (s, q) st.older → q.uid ≡ object x → ⊥
      unlisted q i of = let o = older_is (s, q) i in
          never on (ap (λ (l : ObjectLine). order.has l.stores s) (sym (older_line (s, q) o of)) ∙ o.unlisted)

  -- and any store this one, or an older one
  held_known : (s : ℕ) (g : Packed) → option_map packed (held_at (object x) (disk_by hd st s).store) ≡ Some g → In g (S.first ∷ S.past)
  held_known s g is = by (held_at (object x) (disk_by hd st s).store) refl is
    where
      by : (o : Option ObjectState) → held_at (object x) (disk_by hd st s).store ≡ o → option_map packed o ≡ Some g →
          In g (S.first ∷ S.past)
      by None h e = absurd (cc e)
      by (Some q) h e =
          let of : q.uid ≡ object x = puts_keyed (states_from s hd st) [] none_keyed (object x) q h in
          let g_is : packed q ≡ g = some_is refl e in
          ⊎_elim (λ among. ⊎_elim
          (λ old. ⊎_elim (λ (last : q ≡ state_of line). inl (ap packed (sym last) ∙ g_is))
          (λ (before : IsBefore q (st.marks.states line.x)).
          inr (subst (λ (z : Packed). In z S.past) g_is (past_in x last_version st.older (s, q) old of before.below)))
          (older_was (s, q) old of))
          (λ (new : (q ≡ state_of line) × (order.has line.stores s ≡ true)). inl (ap packed (sym new.0) ∙ g_is))
          (from_store s q among of)) (λ (old : at_uid (object x) [] ≡ Some q). absurd (cc old))
          (puts_from (states_from s hd st) [] (object x) q h)

  pub first_is : IsFirst S
  first_is = record {
    idle = λ t. refl;
    unbegun = λ t. refl;
    none_got = λ t s. refl;
    no_record = λ t. refl;
    none_bare = λ t. refl;
    undecided = refl;
    free = λ s. refl;
    none_went = λ t s. refl;
    entry_free = refl;
    none_conf = λ t. refl;
    none_light = λ t. refl;
    entry = refl;
    stores = (has_it.stored.0, has_same has_it.stored.0 line.stores ∙ has_it.stored.1);
    held = λ s on. ap (option_map packed) (held_listed s (sym (has_same s line.stores) ∙ on));
    no_other = held_known;
    past = past_is;
  }

  abbrev pub W : World
  W = record { disk = S; sent = [] }

  -- ---- the pairs

  store_seen : (s : ℕ) → SeesStore x s (disk_by hd st s).store S
  store_seen s = record {
    pair = record {
      sorted = tt;
      keyed = puts_keyed (states_from s hd st) [] none_keyed;
      held_is = refl;
      holder = λ h is. absurd (cc is);
      held_by = λ a ss states there of. absurd (cc there);
    };
    planned = λ a ss there. absurd (cc there);
  }

  entry_is : packed_entry (entry_of line) ≡ first_entry
  entry_is = λ i. record {
    version = (let m = st.marks.entries line.x in m.version);
    writer = uid_number (let m = st.marks.entries line.x in m.writer);
    content = (entry_back (record { servers = line.servers; stores = line.stores }) i).stores;
  }

  held_entry : held_at (entry x) (disk_by hd st 1).names ≡ Some (entry_of line)
  held_entry = puts_one (entry x) (entry_of line) (map entry_of hd.objects) [] (ap entry has_it.is)
      (λ q among of. let f = from_lines entry_of hd.objects q among in
      sym f.2 ∙ ap entry_of (has_it.once f.0 f.1 (ap (λ (u : Uid). u.num) (ap (λ (r : ObjectState). r.uid) f.2 ∙ of))))
      (inl (to_states entry_of hd.objects line has_it.there))

  pub entry_seen : SeesEntry x (disk_by hd st 1).names S
  entry_seen = record {
    pair = record {
      sorted = tt;
      keyed = puts_keyed (map entry_of hd.objects) [] none_keyed;
      held_is = ap (option_map packed_entry) held_entry ∙ (λ i. Some (entry_is i));
      holder = λ h is. absurd (cc is);
      held_by = λ a ss states there of. absurd (cc there);
    };
    begun = λ a ss there. absurd (cc there);
    taken = λ a ss there. absurd (cc there);
    aimed = λ a ss states there of. absurd (cc there);
  }

  -- ---- the coordinators

  no_branch : (k inc : ℕ) (w : Uid) (b : Branch) → branch_of w (new_coord k inc).tree ≡ Some b → ⊥
  no_branch k inc w b is = by (is_own w (new_coord k inc).tree) is
    where
      none : (n : ℕ) → ◌≡◌ {A = Option Branch} (at_place n []) (Some b) → ⊥
      none zero h = cc h
      none (suc j) h = cc h

      by : (c : Bool) → (if c then at_place w.num [] else None) ≡ Some b → ⊥
      by true h = none w.num h
      by false h = cc h

  no_doing : (k inc : ℕ) (w : Uid) (q : Doing) → doing_of w (new_coord k inc) ≡ Some q → ⊥
  no_doing k inc w q is = by (is_own w (new_coord k inc).tree) is
    where
      none : (n : ℕ) → ◌≡◌ {A = Option Doing} (at_place n []) (Some q) → ⊥
      none zero h = cc h
      none (suc j) h = cc h

      by : (c : Bool) → (if c then at_place w.num [] else None) ≡ Some q → ⊥
      by true h = none w.num h
      by false h = cc h

  abbrev inc_of : ℕ → ℕ
  inc_of k = st.incs k + 1

  abbrev parts_of : ℕ → Parts
  parts_of k = parts_in k (inc_of k) (disk_by hd st k)

  coord_seen : (k : ℕ) → SeesCoord x k (inc_of k) tops (let p = parts_of k in p.coord) S
  coord_seen k = record {
    node = refl;
    present = refl;
    working = λ w b q found unended does. absurd (no_branch k (inc_of k) w b found);
    closed = λ w at ended began. absurd (cc began);
    future = λ w at above. refl;
    bare = λ w b q found does is. absurd (no_branch k (inc_of k) w b found);
  }

  notes_seen : (k : ℕ) → SeesNotes x [] (let p = parts_of k in p.coord) W
  notes_seen k = record {
    settled = λ u i is. absurd (cc is);
    taken = λ u q n does on. absurd (no_doing k (inc_of k) u q does);
    roots = tt;
    plans = λ u q does. absurd (no_doing k (inc_of k) u q does);
  }

  records_seen : (k : ℕ) → SeesRecords k [] S
  records_seen k = record { sorted = tt; own = λ u i is. absurd (cc is); is = λ u at. refl }

  confirmed_seen : (inc : ℕ) (o : Naming) → recovered_naming inc (disk_by hd st 1).names ≡ o → SeesConfirmed o S
  confirmed_seen inc o same = subst (λ (z : Naming). SeesConfirmed z S) same (λ a on. absurd (cc on))

  -- what holds of each node as the run begins
  each : (Q : ℕ → Node → Type 0) → ((k : ℕ) → Q k (node_by hd st k)) → (k : ℕ) (n : Node) →
      at_place k (map (node_by hd st) (numbers_to hd.nodes)) ≡ Some n → Q k n
  each Q first k n is = subst (Q k) (first_at hd st k n is) (first k)

  pub start_seen : tops.walk ≡ None → SeesDisks x tops W (see [] (world_from hd st))
  start_seen unwalked = record {
    whole = first_is_whole S first_is;
    along = subst (λ o. IsAlong o W) (sym unwalked) tt;
    fixed = record { root = refl; serial = refl };
    kinds = λ t began. absurd (cc began);
    stores = each (λ s n. SeesStore x s n.disk.store S) store_seen;
    entry = λ n is. each (λ k n. k ≡ 1 →
        SeesEntry x n.disk.names S) (λ k one. subst (λ j. SeesEntry x (disk_by hd st j).names S) (sym one) entry_seen) 1 n is refl;
    records = each (λ k n. SeesRecords k n.disk.intents S) records_seen;
    coords = λ k n p is live. subst (λ (m : Node). SeesCoord x k m.disk.inc tops p.coord S) (first_at hd st k n is)
        (subst (λ (q : Parts). SeesCoord x k (inc_of k) tops q.coord S) (first_up hd st k n p is live) (coord_seen k));
    notes = λ k n p is live. subst (λ (m : Node). SeesNotes x m.disk.intents p.coord W) (first_at hd st k n is)
        (subst (λ (q : Parts). SeesNotes x [] q.coord W) (first_up hd st k n p is live) (notes_seen k));
    downs = λ k n is live. record { closed = λ u home began. absurd (cc began); future = λ u home later. refl };
    confirmed = λ n p o is live named. confirmed_seen (inc_of 1) o
        (some_is refl (ap (λ (q : Parts). q.naming) (first_up hd st 1 n p is live) ∙ named));
    posts = λ p i. absurd i;
  }
