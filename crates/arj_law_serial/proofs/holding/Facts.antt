-- What else is known in every run: actions have numbers, and a disk has each entry once.
use Rattle.arj_law_parts.proofs.Words
use Words.{◌≡◌, ◌∙◌, ◌==◌, ◌++◌, ◌+◌, ℕ, List, [], ◌∷◌, Bool, true, false, length, Option, Some, None, refl, sym, ap, subst, arith}
use Words.{eqb-true, inl, inr, ⊎_elim, ⊤, if◌then◌else◌, AllByRecursion, Less, Equal, uid_order, is_on, entry, nobody, uid_eq, uid_other}
use Words.{In, in_from, Header, Kind, ObjectState, Uid, uids_of, again_all, begin_action, Abort, After, Before, Commit, Disk, Do, Effect}
use Words.{InPart, Look, Prepare, PutInc, PutIntent, RemoveIntent, Say, Send, Stop, Work, in_part, moved_some, new_states, stopped, worked}
use Words.{AreEntries, tick_outs, Parts, with_coord, put_uid, Node, acts, parent_of, parts_in, put_states, restart_outs}
use Words.{Seen, is_serial}
use Words.kind
use Words.role
use Rattle.arj_law_serial.proofs.Terms
use Terms.{entries_from}
use Terms.{moved, Action, AreBegun, act_of, order_itself, IsEntry, its_uid, at, given, posted, said, Up, Walks, ArePastIn, KeepsOf}
use Terms.{begins_in, AreUppersOf, uppers_of, HoldsNames}
use Rattle.arj_law_parts.proofs.parts.{Begun.on_more, Keys.sorted_put}
use Rattle.arj_law_parts.specs.parts.{Actions.Stands, Objects.AreAbove, Objects.AreSorted}
use Rattle.arj_law_runs.proofs.kept.Starts.{first_at}
use Rattle.arj_law_serial.proofs.{past.Past.past_of, whole.Names.held_names, whole.Of.of_both, whole.Of.of_more}

-- ---- numbers

-- each action has a number from 1 on
abbrev pub HaveNumbers : List Action → Type 0
HaveNumbers begun = AllByRecursion (λ (a : Action). (let u = act_of a in u.num) ≡ 0 → ⊥) begun

-- so has each on a path
pub on_path : (begun : List Action) → AreBegun begun → HaveNumbers begun → (a : Action) → In a begun → (u : Uid) →
    is_on (uids_of a.path) u ≡ true → u.num ≡ 0 → ⊥
on_path [] all numbers a i u on = absurd i
on_path (c ∷ begun) all numbers a (inr i) u on = on_path begun all.1 numbers.1 a i u on
on_path (c ∷ begun) all numbers a (inl is) u on = by (λ b j. on_path begun all.1 numbers.1 b j u) c.kind (let b = all.0 in
    b.stands) (subst (λ (z : Action). is_on (uids_of z.path) u ≡ true) (sym is) on)
  where
    itself : act_of c ≡ u → u.num ≡ 0 → ⊥
    itself same zero = numbers.0 (ap (λ (w : Uid). w.num) same ∙ zero)

    alone : uids_of c.path ≡ act_of c ∷ [] → is_on (uids_of c.path) u ≡ true → u.num ≡ 0 → ⊥
    alone e here =
        ⊎_elim {C = u.num ≡ 0 → ⊥} (λ above. absurd (cc above)) itself (on_more [] (act_of c) u (subst (λ us. is_on us u ≡ true) e here))

    below : ((b : Action) → In b begun → is_on (uids_of b.path) u ≡ true → u.num ≡ 0 → ⊥) → (b : Action) → In b begun →
        uids_of c.path ≡ uids_of b.path ++ act_of c ∷ [] → is_on (uids_of c.path) u ≡ true → u.num ≡ 0 → ⊥
    below older b j e here =
        ⊎_elim {C = u.num ≡ 0 → ⊥} (older b j) itself (on_more (uids_of b.path) (act_of c) u (subst (λ us. is_on us u ≡ true) e here))

    by : ((b : Action) → In b begun → is_on (uids_of b.path) u ≡ true → u.num ≡ 0 → ⊥) → (k : Kind) → Stands begun c k →
        is_on (uids_of c.path) u ≡ true → u.num ≡ 0 → ⊥
    by older kind.Nested s here = below older s.0 (in_from s.0 begun s.1) s.3 here
    by older kind.Constituent s here = below older s.0 (in_from s.0 begun s.1) s.3 here
    by older kind.Top s here = alone s.0 here
    by older kind.Serial s here = alone s.0 here
    by older kind.Independent s here = alone s.0 here

-- and so none of them is nobody
pub someone : (u : Uid) → (u.num ≡ 0 → ⊥) → uid_eq nobody u ≡ false
someone u numbered = uid_other nobody u (λ e. numbered (ap (λ (w : Uid). w.num) (sym e)))

const_walk : (C : Type 0) (e k : ℕ) (outs : List Effect) (d : Disk) (N : Seen) → C → Walks (λ Z. C) e k outs (λ c Z. C) d N
const_walk C e k [] d N c = c
const_walk C e k (Do w ∷ es) d N c = ((λ how. c), const_walk C e k es (worked w d) N c)
const_walk C e k (Say b ∷ es) d N c = const_walk C e k es d (said e (b ∷ []) N) c
const_walk C e k (Send to m ∷ es) d N c =
    λ more quiet. const_walk C e k es d (said e more (posted (record { from = k; to = to; message = m }) N)) c

numbers_of : (hd : Header) → KeepsOf hd (λ begun M. ⊤) (λ begun M. HaveNumbers begun)
numbers_of hd = record {
  quiet = λ begun e bs M quiet more good p. p;
  stop = λ begun e k d live M more good p. p;
  message = λ begun e k d t v from m outs M more good p there meant is. const_walk (HaveNumbers begun) e k outs d M p;
  act = λ begun e k d t i M is none more good p. let did = acts i d.intents t.coord in const_walk (HaveNumbers begun) e k did.outs d M p;
  begin = λ begun e k d t l how parent M new may none more good p.
      let did = begin_action l how parent (parent_of parent t.coord) t.coord in
      let a = begins_in how parent t in
      let same = its_uid e k d t l how parent M new may none (begun, good) in
      const_walk (HaveNumbers (a ∷ begun)) e k did.outs d (given l (record { node = k; serial = is_serial how }) M)
      ((λ zero. let n : length t.coord.tree.branches + 1 ≡ 0 = sym (ap (λ (w : Uid). w.num) same) ∙ zero in absurd (omega (arith, n))), p);
  tick = λ begun e k d t M more good p.
      const_walk (HaveNumbers begun) e k (tick_outs (record { number = k; disk = d; live = Some t }) t) d M p;
  restart = λ begun e k d M more good p. const_walk (HaveNumbers begun) e k (restart_outs hd k (d.inc + 1) d) d M p;
  first = λ st formed. tt;
}

-- ---- entries on disks

-- each disk has the states of entries in the order of their names
abbrev pub AreInOrder : Seen → Type 0
AreInOrder M = (n : ℕ) (a : Node) → M.nodes n ≡ Some a → AreSorted (let d = a.disk in let p = d.names in p.held)

abbrev HasOrder : Disk → Type 0
HasOrder d = AreSorted (let p = d.names in p.held)

sorted_moved : (ss : List ObjectState) (held : List (Uid × ObjectState)) → AreSorted held → AreSorted (moved ss held)
sorted_moved [] held h = h
sorted_moved (s ∷ ss) held h = sorted_moved ss (put_uid s.uid s held) (sorted_put s.uid s held h)

sorted_some : (which : Uid → Bool) (ss : List ObjectState) (held : List (Uid × ObjectState)) → AreSorted held →
    AreSorted (moved_some which ss held)
sorted_some which [] held h = h
sorted_some which (s ∷ ss) held h = sorted_some which ss (if which s.uid then put_uid s.uid s held else held) (by (which s.uid))
  where
    by : (b : Bool) → AreSorted (if b then put_uid s.uid s held else held)
    by true = sorted_put s.uid s held h
    by false = h

sorted_states : (ss : List ObjectState) (held : List (Uid × ObjectState)) → AreSorted held → AreSorted (put_states ss held)
sorted_states [] held h = h
sorted_states (s ∷ ss) held h = sorted_states ss (put_uid s.uid s held) (sorted_put s.uid s held h)

order_worked : (w : Work) (d : Disk) → HasOrder d → HasOrder (worked w d)
order_worked Look d h = h
order_worked (PutInc i) d h = h
order_worked (Prepare role.Store u states) d h = h
order_worked (Prepare role.Names u states) d h = h
order_worked (Commit role.Store u) d h = h
order_worked (Commit role.Names u) d h = sorted_moved (new_states u d.names) d.names.held h
order_worked (Abort role.Store u) d h = h
order_worked (Abort role.Names u) d h = h
order_worked (PutIntent u i) d h = h
order_worked (RemoveIntent u) d h = h

order_part : (which : Uid → Bool) (w : Work) (d : Disk) → HasOrder d → HasOrder (in_part which w d)
order_part which Look d h = h
order_part which (PutInc i) d h = h
order_part which (Prepare r u states) d h = h
order_part which (Commit role.Store u) d h = h
order_part which (Commit role.Names u) d h = sorted_some which (new_states u d.names) d.names.held h
order_part which (Abort r u) d h = h
order_part which (PutIntent u i) d h = h
order_part which (RemoveIntent u) d h = h

order_stopped : (how : Stop) (w : Work) (d : Disk) → HasOrder d → HasOrder (stopped how w d)
order_stopped Before w d h = h
order_stopped After w d h = order_worked w d h
order_stopped (InPart which) w d h = order_part which w d h

module _ (e k : ℕ) where
  -- of all other nodes
  abbrev OthersIn : Seen → Type 0
  OthersIn N = (n : ℕ) (a : Node) → (n == k) ≡ false → N.nodes n ≡ Some a → HasOrder a.disk

  put_order : (d : Disk) (live : Option Parts) (N : Seen) → OthersIn N → HasOrder d → AreInOrder (at k d live N)
  put_order d live N others h n a = by (n == k) refl
    where
      by : (b : Bool) → (n == k) ≡ b → (if b then Some (record { number = k; disk = d; live = live }) else N.nodes n) ≡ Some a →
          HasOrder a.disk
      by true is there = let same : ◌≡◌ {A = Node} (record { number = k; disk = d; live = live }) a = cc there in
          subst (λ (z : Node). HasOrder z.disk) same h
      by false is there = others n a is there

  others_in : (d : Disk) (live : Option Parts) (M : Seen) → AreInOrder (at k d live M) → OthersIn M
  others_in d live M h n a off there =
      h n a (subst (λ b. (if b then Some (record { number = k; disk = d; live = live }) else M.nodes n) ≡ Some a) (sym off) there)

  own_in : (d : Disk) (live : Option Parts) (M : Seen) → AreInOrder (at k d live M) → HasOrder d
  own_in d live M h = h k (record { number = k; disk = d; live = live })
      (subst (λ b. (if b then Some (record { number = k; disk = d; live = live }) else M.nodes k)
      ≡ Some (record { number = k; disk = d; live = live })) (sym (same k)) refl)
    where
      same : (n : ℕ) → (n == n) ≡ true
      same n = grind arith

  order_walk : (v : Parts) (outs : List Effect) (d : Disk) (N : Seen) → OthersIn N → HasOrder d →
      Walks AreInOrder e k outs (Up AreInOrder k v) d N
  order_walk v [] d N others h = put_order d (Some v) N others h
  order_walk v (Do w ∷ es) d N others h = (
    (λ how. put_order (stopped how w d) None N others (order_stopped how w d h)),
    order_walk v es (worked w d) N others (order_worked w d h),
  )
  order_walk v (Say b ∷ es) d N others h = order_walk v es d (said e (b ∷ []) N) others h
  order_walk v (Send to m ∷ es) d N others h =
      λ more quiet. order_walk v es d (said e more (posted (record { from = k; to = to; message = m }) N)) others h

  kept_order : (live : Option Parts) (v : Parts) (outs : List Effect) (d : Disk) (M : Seen) → AreInOrder (at k d live M) →
      Walks AreInOrder e k outs (Up AreInOrder k v) d M
  kept_order live v outs d M h = order_walk v outs d M (others_in d live M h) (own_in d live M h)

order_of : (hd : Header) → KeepsOf hd (λ begun M. ⊤) (λ begun M. AreInOrder M)
order_of hd = record {
  quiet = λ begun e bs M quiet more good p. p;
  stop = λ begun e k d live M more good p. put_order e k d None M (others_in e k d live M p) (own_in e k d live M p);
  message = λ begun e k d t v from m outs M more good p there meant is. kept_order e k (Some t) v outs d M p;
  act = λ begun e k d t i M is none more good p. let did = acts i d.intents t.coord in
      kept_order e k (Some t) (with_coord t did.part) did.outs d M p;
  begin = λ begun e k d t l how parent M new may none more good p.
      let did = begin_action l how parent (parent_of parent t.coord) t.coord in
      kept_order e k (Some t) (with_coord t did.part) did.outs d (given l (record { node = k; serial = is_serial how }) M) p;
  tick = λ begun e k d t M more good p. kept_order e k (Some t) (with_coord t (let q = again_all t.coord.doings t.coord in q.part))
      (tick_outs (record { number = k; disk = d; live = Some t }) t) d M p;
  restart = λ begun e k d M more good p. kept_order e k None (parts_in k (d.inc + 1) d) (restart_outs hd k (d.inc + 1) d) d M p;
  first = λ st formed n a there.
      subst (λ (z : Node). HasOrder z.disk) (first_at hd st n a there) (sorted_states (entries_from n hd st.marks) [] tt);
}

-- entries that stand in order are those of different objects
pub are_entries : (held : List (Uid × ObjectState)) → AllByRecursion (λ (e : Uid × ObjectState). IsEntry e.0 × ⊤) held → AreSorted held →
    AreEntries held
are_entries [] all sorted = tt
are_entries (e ∷ es) all sorted = (all.0.0, others es all.1 sorted.0, are_entries es all.1 sorted.1)
  where
    others : (fs : List (Uid × ObjectState)) → AllByRecursion (λ (f : Uid × ObjectState). IsEntry f.0 × ⊤) fs → AreAbove e.0 fs →
        AllByRecursion (λ (f : Uid × ObjectState). (f.0.num == e.0.num) ≡ false) fs
    others [] its above = tt
    others (f ∷ fs) its above = (by (f.0.num == e.0.num) refl, others fs its.1 above.1)
      where
        by : (b : Bool) → (f.0.num == e.0.num) ≡ b → b ≡ false
        by false is = refl
        by true is =
            let one : f.0.num ≡ e.0.num = eqb-true f.0.num e.0.num is in
            let same : f.0 ≡ e.0 = its.0.0 ∙ ap entry one ∙ sym all.0.0 in
            let less : Equal ≡ Less = sym (order_itself e.0) ∙ ap (uid_order e.0) (sym same) ∙ above.0 in cc

-- ---- together

-- what is known besides
abbrev pub Facts : List Action → Seen → Type 0
Facts begun M = (ArePastIn begun M × HaveNumbers begun) × (AreUppersOf HoldsNames begun M × AreInOrder M)

pub facts_of : (hd : Header) → KeepsOf hd (λ begun M. ⊤) Facts
facts_of hd =
    of_both hd (λ begun M. ⊤) (λ begun M. ArePastIn begun M × HaveNumbers begun) (λ begun M. AreUppersOf HoldsNames begun M × AreInOrder M)
    (of_more hd (λ begun M. ⊤) (λ begun M. ⊤ × (AreUppersOf HoldsNames begun M × AreInOrder M))
    (λ begun M. ArePastIn begun M × HaveNumbers begun) (λ begun M h. tt) ends)
    (of_more hd (λ begun M. ⊤) (λ begun M. ⊤ × (ArePastIn begun M × HaveNumbers begun))
    (λ begun M. AreUppersOf HoldsNames begun M × AreInOrder M) (λ begun M h. tt) entries)
  where
    ends : KeepsOf hd (λ begun M. ⊤) (λ begun M. ArePastIn begun M × HaveNumbers begun)
    ends = of_both hd (λ begun M. ⊤) ArePastIn (λ begun M. HaveNumbers begun)
        (of_more hd (λ begun M. ⊤) (λ begun M. ⊤ × HaveNumbers begun) ArePastIn (λ begun M h. tt) (past_of hd))
        (of_more hd (λ begun M. ⊤) (λ begun M. ⊤ × ArePastIn begun M) (λ begun M. HaveNumbers begun) (λ begun M h. tt) (numbers_of hd))

    entries : KeepsOf hd (λ begun M. ⊤) (λ begun M. AreUppersOf HoldsNames begun M × AreInOrder M)
    entries = of_both hd (λ begun M. ⊤) (AreUppersOf HoldsNames) (λ begun M. AreInOrder M)
        (of_more hd (λ begun M. ⊤) (λ begun M. ⊤ × AreInOrder M) (AreUppersOf HoldsNames) (λ begun M h. tt)
        (uppers_of HoldsNames held_names hd))
        (of_more hd (λ begun M. ⊤) (λ begun M. ⊤ × AreUppersOf HoldsNames begun M) (λ begun M. AreInOrder M) (λ begun M h. tt)
        (order_of hd))
