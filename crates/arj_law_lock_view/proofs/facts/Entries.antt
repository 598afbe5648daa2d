-- No work takes an entry from a disk.
use Rattle.arj_law_parts.proofs.Words
use Words.{Start, ◌≡◌, ◌∙◌, ◌+◌, ◌==◌, ℕ, Bool, true, false, cond, List, [], ◌∷◌, map, refl, sym, ap, subst, inl, inr, Option, Some, None}
use Words.{arith}
use Words.{is_some, is_eq, nat_cmp, Ordering, Less, Equal, Greater, uid_order, In, in_from, Header, ObjectLine, ObjectState, Uid, entry}
use Words.{named_back, Abort, After, Before, Commit, Disk, Do, Effect, InPart, Look, Pair, Prepare, PutInc, PutIntent, RemoveIntent, Say}
use Words.{Send, Stop, Work, held_at, moved_some, new_states, stopped, worked, again_all, begin_action, tick_outs, Parts, with_coord}
use Words.{at_number, at_uid, put_uid, Node, acts, parent_of, parts_in, put_states, restart_outs}
use Words.{Seen, is_serial}
use Words.role
use Rattle.arj_law_lock_view.proofs.Terms.{IsAtStarts, disk_by, entry_by, moved, order_exact, put_same, first_at, at, given, posted, said}
use Rattle.arj_law_lock_view.proofs.Terms.{Up, Walks}
use Rattle.arj_law_lock_view.specs.facts.Entries.{EntriesAreFound, HandlersKeepEntries, HasObject, HoldsEntry}
use Rattle.arj_law_runs.proofs.addresses.Lists.{found_put}

some_is : {A : Type 0} {a b : A} → Some a ≡ Some b → a ≡ b
some_is {A} {a} {b} is = let k : ◌≡◌ {A = Option A} (Some a) (Some b) = is in cc

module _ (x : ℕ) where
  abbrev IsHeld : Pair → Type 0
  IsHeld d = is_some (held_at (entry x) d) ≡ true

  abbrev InHeld : List (Uid × ObjectState) → Type 0
  InHeld held = is_some (at_uid (entry x) held) ≡ true

  moved_keeps : (ss : List ObjectState) (held : List (Uid × ObjectState)) → InHeld held → InHeld (moved ss held)
  moved_keeps [] held its = its
  moved_keeps (s ∷ ss) held its = moved_keeps ss (put_uid s.uid s held) (found_put (entry x) s.uid s held its)

  some_keeps : (which : Uid → Bool) (ss : List ObjectState) (held : List (Uid × ObjectState)) → InHeld held →
      InHeld (moved_some which ss held)
  some_keeps which [] held its = its
  some_keeps which (s ∷ ss) held its = some_keeps which ss (cond (which s.uid) (put_uid s.uid s held) held) (by (which s.uid))
    where
      by : (b : Bool) → InHeld (cond b (put_uid s.uid s held) held)
      by true = found_put (entry x) s.uid s held its
      by false = its

  work_keeps : (w : Work) (d : Disk) → IsHeld d.names → IsHeld (worked w d).names
  work_keeps Look d its = its
  work_keeps (PutInc i) d its = its
  work_keeps (Prepare role.Store u states) d its = its
  work_keeps (Prepare role.Names u states) d its = its
  work_keeps (Commit role.Store u) d its = its
  work_keeps (Commit role.Names u) d its = moved_keeps (new_states u d.names) d.names.held its
  work_keeps (Abort role.Store u) d its = its
  work_keeps (Abort role.Names u) d its = its
  work_keeps (PutIntent u i) d its = its
  work_keeps (RemoveIntent u) d its = its

  stop_keeps : (how : Stop) (w : Work) (d : Disk) → IsHeld d.names → IsHeld (stopped how w d).names
  stop_keeps Before w d its = its
  stop_keeps After w d its = work_keeps w d its
  stop_keeps (InPart which) Look d its = its
  stop_keeps (InPart which) (PutInc i) d its = its
  stop_keeps (InPart which) (Prepare r u states) d its = its
  stop_keeps (InPart which) (Commit role.Store u) d its = its
  stop_keeps (InPart which) (Commit role.Names u) d its = some_keeps which (new_states u d.names) d.names.held its
  stop_keeps (InPart which) (Abort r u) d its = its
  stop_keeps (InPart which) (PutIntent u i) d its = its
  stop_keeps (InPart which) (RemoveIntent u) d its = its

  -- the node with another disk and memory
  again : (k : ℕ) (d e : Disk) (live later : Option Parts) (M : Seen) → (IsHeld d.names → IsHeld e.names) → HoldsEntry x (at k d live M) →
      HoldsEntry x (at k e later M)
  again k d e live later M keeps all n is = by (1 == k) refl is
    where
      by : (b : Bool) → (1 == k) ≡ b → cond b (Some (record { number = k; disk = e; live = later })) (M.nodes 1) ≡ Some n →
          is_some (held_at (entry x) n.disk.names) ≡ true
      by true same f = subst (λ (z : Node). is_some (held_at (entry x) z.disk.names) ≡ true) (some_is f)
          (keeps (all (record { number = k; disk = d; live = live })
          (λ i. cond (same i) (Some (record { number = k; disk = d; live = live })) (M.nodes 1))))
      by false apart f = all n ((λ i. cond (apart i) (Some (record { number = k; disk = d; live = live })) (M.nodes 1)) ∙ f)

  -- whatever a node does
  walk : (e k : ℕ) (v : Parts) (outs : List Effect) (d : Disk) (M : Seen) → HoldsEntry x (at k d None M) →
      Walks (HoldsEntry x) e k outs (Up (HoldsEntry x) k v) d M
  walk e k v [] d M all = again k d d None (Some v) M (λ its. its) all
  walk e k v (Do w ∷ es) d M all = (
    λ how. again k d (stopped how w d) None None M (stop_keeps how w d) all,
    walk e k v es (worked w d) M (again k d (worked w d) None None M (work_keeps w d) all),
  )
  walk e k v (Say b ∷ es) d M all = walk e k v es d (said e (b ∷ []) M) all
  walk e k v (Send to m ∷ es) d M all =
      λ more quiet. walk e k v es d (said e more (posted (record { from = k; to = to; message = m }) M)) all

  -- ---- at first

  put_there : (u : Uid) (s : ObjectState) (m : List (Uid × ObjectState)) → is_some (at_uid u (put_uid u s m)) ≡ true
  put_there u s m = ap is_some (put_same u s m)

  put_keeps : (ss : List ObjectState) (held : List (Uid × ObjectState)) → InHeld held → InHeld (put_states ss held)
  put_keeps [] held its = its
  put_keeps (s ∷ ss) held its = put_keeps ss (put_uid s.uid s held) (found_put (entry x) s.uid s held its)

  module _ (hd : Header) (st : Start) where
    abbrev entry_of : ObjectLine → ObjectState
    entry_of o = entry_by hd.format (st.marks.entries o.x) o

    first_held : (os : List ObjectLine) (o : ObjectLine) (held : List (Uid × ObjectState)) → In o os → o.x ≡ x →
        InHeld (put_states (map entry_of os) held)
    first_held [] o held i is = absurd i
    first_held (p ∷ ps) o held (inl same) is = put_keeps (map entry_of ps) (put_uid (entry p.x) (entry_of p) held)
        (subst (λ (n : ℕ). is_some (at_uid (entry n) (put_uid (entry p.x) (entry_of p) held)) ≡ true)
        (ap (λ (z : ObjectLine). z.x) same ∙ is) (put_there (entry p.x) (entry_of p) held))
    first_held (p ∷ ps) o held (inr i) is = first_held ps o (put_uid (entry p.x) (entry_of p) held) i is

    pub first_there : HasObject hd x → is_some (held_at (entry x) (let d = disk_by hd st 1 in d.names)) ≡ true
    first_there has = first_held hd.objects has.0 [] (in_from has.0 hd.objects has.1) has.2

  first_so : (hd : Header) → HasObject hd x → IsAtStarts hd (HoldsEntry x)
  first_so hd has st formed n is =
      subst (λ (z : Node). is_some (held_at (entry x) z.disk.names) ≡ true) (first_at hd st 1 n is) (first_there hd st has)

-- ---- all runs

pub entries_keep : HandlersKeepEntries
entries_keep hd x has = record {
  quiet = λ e bs M quiet all. all;
  stop = λ e k d live M all. again x k d d live None M (λ its. its) all;
  message = λ e k d t v from m outs M all there meant is. walk x e k v outs d M (again x k d d (Some t) None M (λ its. its) all);
  act = λ e k d t i M is free all. let did = acts i d.intents t.coord in
      walk x e k (with_coord t did.part) did.outs d M (again x k d d (Some t) None M (λ its. its) all);
  begin = λ e k d t l how parent M new may free all. let did = begin_action l how parent (parent_of parent t.coord) t.coord in
      walk x e k (with_coord t did.part) did.outs d (given l (record { node = k; serial = is_serial how }) M)
      (again x k d d (Some t) None M (λ its. its) all);
  tick = λ e k d t M all. walk x e k (with_coord t (again_all t.coord.doings t.coord).part)
      (tick_outs (record { number = k; disk = d; live = Some t }) t) d M (again x k d d (Some t) None M (λ its. its) all);
  restart = λ e k d M all. walk x e k (parts_in k (d.inc + 1) d) (restart_outs hd k (d.inc + 1) d) d M all;
  first = first_so x hd has;
}

-- ---- what a restart finds

pub entries_found : EntriesAreFound
entries_found x inc d there = by d.held there
  where
    by : (held : List (Uid × ObjectState)) → is_some (at_uid (entry x) held) ≡ true → is_some (at_number x (map (named_back d) held)) ≡ true
    by [] its = absurd (cc its)
    by (e ∷ es) its = one (uid_order (entry x) e.0) refl its (by es)
      where
        here : (b : Bool) → is_some (at_number x (map (named_back d) es)) ≡ true →
            is_some (cond b (Some (let f = named_back d e in f.1)) (at_number x (map (named_back d) es))) ≡ true
        here true rest = refl
        here false rest = rest

        itself : (n : ℕ) → is_eq (nat_cmp n n) ≡ true
        itself n = grind arith

        one : (r : Ordering) → uid_order (entry x) e.0 ≡ r → is_some (cond (is_eq r) (Some e.1) (at_uid (entry x) es)) ≡ true →
            (is_some (at_uid (entry x) es) ≡ true → is_some (at_number x (map (named_back d) es)) ≡ true) →
            is_some (at_number x (map (named_back d) (e ∷ es))) ≡ true
        one Less order at ih = here (is_eq (nat_cmp x e.0.num)) (ih at)
        one Equal order at ih = ap (λ b. is_some (cond b (Some (let f = named_back d e in f.1)) (at_number x (map (named_back d) es))))
            (ap (λ (u : Uid). is_eq (nat_cmp x u.num)) (sym (order_exact (entry x) e.0 order)) ∙ itself x)
        one Greater order at ih = here (is_eq (nat_cmp x e.0.num)) (ih at)
