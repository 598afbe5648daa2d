-- Entries at naming, under each handler.
use Rattle.arj_law_parts.proofs.Words
use Words.{◌≡◌, ◌⊎◌, ℕ, ◌==◌, List, [], ◌∷◌, ◌++◌, Bool, true, false, cond, filter, map, not, Option, Some, None, refl, sym, ◌∙◌, ap, subst}
use Words.{inl, inr, ⊎_elim, if◌then◌else◌, is_some, unwrap_or, ◌||◌, AllByRecursion, list_all, and_parts, In, in_filter, in_filter_map}
use Words.{in_from, in_to, Uid, Binding, ObjectState, Path, ConfirmedReply, entry, is_on, nobody, top_of, Grants, Marks, checked, confirm}
use Words.{confirm_entries, confirm_new, confirms, entries_after, entry_after, entry_state, has_all, lock_all, lock_in, prepared_by}
use Words.{same_nodes, stores_after, wanted, Disk, Did, Effect, Say, Send, Do, Work, Look, Pair, Prep, Ready, Already, Old, InDoubt}
use Words.{Prepare, Commit, Abort, PutInc, PutIntent, RemoveIntent, Served, Stop, Before, After, InPart, held_at, is_prepared, moved_some}
use Words.{new_states, pair_in_part, prepare_answer, reply, stopped, void, worked, Named, bind_named, note_named, Naming, is_over}
use Words.{listed_entry, on_counted, on_named, Parts, query_about, at_number, at_uid, each, put_number, put_uid, without_uid, AreAll}
use Words.{is_coord_effect, is_server_effect, Node, state_entry, put_other as number_other, put_same as number_same, all_both, one_or_two}
use Words.{Seen}
use Words.body
use Words.confirmed
use Words.mode
use Words.recorded
use Words.role
use Words.what
use Words.naming
use Rattle.arj_law_disk_view.proofs.Terms
use Terms.{moved, moved_names, some_is, at, posted, said, up, Walks, Up, halted, HasEntries, HaveEntries, IsEntryNode, IsInStep}
use Terms.{KnowsEntries}
use Rattle.arj_law_disk_view.proofs.names.EntriesLeft.{left_both, names_left, names_worked, prepares_none, worked_names}
use Rattle.arj_law_disk_view.proofs.view.{ConfirmWalks.locks_say, HeardWalks.is_say}
use Rattle.arj_law_disk_view.specs.running.Entries.{AreOfEntries, PreparesEntries}
use Rattle.arj_law_parts.proofs.parts.{Keys.with_on, Pairs.each_at, Pairs.moved_stays}
use Rattle.arj_law_disk_view.proofs.view.Keys as keys

-- ---- effects that leave entries as they are

abbrev leaves_entries : Effect → Bool
leaves_entries (Do (Prepare role.Names u states)) = false
leaves_entries (Do (Commit role.Names u)) = false
leaves_entries (Do (Abort role.Names u)) = false
leaves_entries _ = true

abbrev pub Leaves : List Effect → Type 0
Leaves es = AreAll leaves_entries es

abbrev AllOfEntries : List Effect → Type 0
AllOfEntries es = AllByRecursion PreparesEntries es

pub leaves_both : (es fs : List Effect) → Leaves es → Leaves fs → Leaves (es ++ fs)
leaves_both es fs a b = all_both leaves_entries es fs a b

pub leaves_prepare : (es : List Effect) → Leaves es → AllOfEntries es
leaves_prepare [] all = tt
leaves_prepare (Say b ∷ es) all = (tt, leaves_prepare es all)
leaves_prepare (Send to m ∷ es) all = (tt, leaves_prepare es all)
leaves_prepare (Do Look ∷ es) all = (tt, leaves_prepare es all)
leaves_prepare (Do (PutInc i) ∷ es) all = (tt, leaves_prepare es all)
leaves_prepare (Do (Prepare role.Store u states) ∷ es) all = (tt, leaves_prepare es all)
leaves_prepare (Do (Prepare role.Names u states) ∷ es) all = absurd (cc all)
leaves_prepare (Do (Commit role.Store u) ∷ es) all = (tt, leaves_prepare es all)
leaves_prepare (Do (Commit role.Names u) ∷ es) all = absurd (cc all)
leaves_prepare (Do (Abort role.Store u) ∷ es) all = (tt, leaves_prepare es all)
leaves_prepare (Do (Abort role.Names u) ∷ es) all = absurd (cc all)
leaves_prepare (Do (PutIntent u i) ∷ es) all = (tt, leaves_prepare es all)
leaves_prepare (Do (RemoveIntent u) ∷ es) all = (tt, leaves_prepare es all)

pub left_same : (es : List Effect) (p : Pair) → Leaves es → names_left es p ≡ p
left_same [] p all = refl
left_same (Say b ∷ es) p all = left_same es p all
left_same (Send to m ∷ es) p all = left_same es p all
left_same (Do Look ∷ es) p all = left_same es p all
left_same (Do (PutInc i) ∷ es) p all = left_same es p all
left_same (Do (Prepare role.Store u states) ∷ es) p all = left_same es p all
left_same (Do (Prepare role.Names u states) ∷ es) p all = absurd (cc all)
left_same (Do (Commit role.Store u) ∷ es) p all = left_same es p all
left_same (Do (Commit role.Names u) ∷ es) p all = absurd (cc all)
left_same (Do (Abort role.Store u) ∷ es) p all = left_same es p all
left_same (Do (Abort role.Names u) ∷ es) p all = absurd (cc all)
left_same (Do (PutIntent u i) ∷ es) p all = left_same es p all
left_same (Do (RemoveIntent u) ∷ es) p all = left_same es p all

pub says_leave : (es : List Effect) → AreAll is_say es → Leaves es
says_leave [] own = refl
says_leave (Say b ∷ es) own = says_leave es own
says_leave (Send to m ∷ es) own = absurd (cc own)
says_leave (Do w ∷ es) own = absurd (cc own)

pub server_leaves : (n : ℕ) (es : List Effect) → AreAll (is_server_effect n) es → Leaves es
server_leaves n [] own = refl
server_leaves n (Say b ∷ es) own = server_leaves n es (and_parts (is_server_effect n (Say b)) (list_all (is_server_effect n) es) own).1
server_leaves n (Send to m ∷ es) own = absurd (cc own)
server_leaves n (Do w ∷ es) own = absurd (cc own)

pub coord_leaves : (es : List Effect) → AreAll is_coord_effect es → Leaves es
coord_leaves [] own = refl
coord_leaves (Say b ∷ es) own = coord_leaves es (and_parts (is_coord_effect (Say b)) (list_all is_coord_effect es) own).1
coord_leaves (Send to m ∷ es) own = coord_leaves es own
coord_leaves (Do (PutIntent u i) ∷ es) own = coord_leaves es own
coord_leaves (Do (RemoveIntent u) ∷ es) own = coord_leaves es own
coord_leaves (Do Look ∷ es) own = absurd (cc own)
coord_leaves (Do (PutInc i) ∷ es) own = absurd (cc own)
coord_leaves (Do (Prepare r u states) ∷ es) own = absurd (cc own)
coord_leaves (Do (Commit r u) ∷ es) own = absurd (cc own)
coord_leaves (Do (Abort r u) ∷ es) own = absurd (cc own)

-- effects that prepare nothing
pub none_prepare : (es : List Effect) → AreAll prepares_none es → AllOfEntries es
none_prepare [] all = tt
none_prepare (Say b ∷ es) all = (tt, none_prepare es all)
none_prepare (Send to m ∷ es) all = (tt, none_prepare es all)
none_prepare (Do Look ∷ es) all = (tt, none_prepare es all)
none_prepare (Do (PutInc i) ∷ es) all = (tt, none_prepare es all)
none_prepare (Do (Prepare r u states) ∷ es) all = absurd (cc all)
none_prepare (Do (Commit r u) ∷ es) all = (tt, none_prepare es all)
none_prepare (Do (Abort r u) ∷ es) all = (tt, none_prepare es all)
none_prepare (Do (PutIntent u i) ∷ es) all = (tt, none_prepare es all)
none_prepare (Do (RemoveIntent u) ∷ es) all = (tt, none_prepare es all)

pub all_prepare : (es fs : List Effect) → AllOfEntries es → AllOfEntries fs → AllOfEntries (es ++ fs)
all_prepare [] fs a b = b
all_prepare (e ∷ es) fs a b = (a.0, all_prepare es fs a.1 b)

pub queries_leave : (us : List Uid) → Leaves (map query_about us)
queries_leave [] = refl
queries_leave (u ∷ us) = queries_leave us

module _ (x : ℕ) where
  -- ---- one work

  -- states of entries in their places
  moved_entries : (ss : List ObjectState) (p : Pair) → ((s : ObjectState) → In s ss → s.uid ≡ entry s.uid.num) → HasEntries x p →
      HasEntries x (record p { held = moved ss p.held })
  moved_entries ss p own h = record {
    sorted = h.sorted;
    held = λ e c. moved_names ss p.held own (λ f i. h.held f (in_to f p.held i)) e (in_from e (moved ss p.held) c);
    there = by (held_at (entry x) p) refl h.there;
    states = h.states;
  }
    where
      by : (o : Option ObjectState) → held_at (entry x) p ≡ o → is_some o ≡ true → is_some (at_uid (entry x) (moved ss p.held)) ≡ true
      by None is on = absurd (cc on)
      by (Some st) is on = ap is_some (moved_stays ss p.held (entry x) st is).1

  new_own : (u : Uid) (p : Pair) → HasEntries x p → (s : ObjectState) → In s (new_states u p) → s.uid ≡ entry s.uid.num
  new_own u p h s i = by (at_uid u p.pend) refl i
    where
      by : (o : Option (List ObjectState)) → at_uid u p.pend ≡ o → In s (unwrap_or o []) → s.uid ≡ entry s.uid.num
      by None is j = absurd j
      by (Some states) is j = h.states u states is s (in_to s states j)

  without : (u : Uid) (p : Pair) → HasEntries x p → HasEntries x (record p { pend = without_uid u p.pend })
  without u p h = record {
    sorted = keys.sorted_without u p.pend h.sorted;
    held = h.held;
    there = h.there;
    states = λ a ss is. h.states a ss (keys.without_cases a u ss p.pend h.sorted is).1;
  }

  entries_worked : (w : Work) (p : Pair) → PreparesEntries (Do w) → HasEntries x p → HasEntries x (names_worked w p)
  entries_worked Look p its h = h
  entries_worked (PutInc i) p its h = h
  entries_worked (Prepare role.Store u states) p its h = h
  entries_worked (Prepare role.Names u states) p its h = record {
    sorted = keys.sorted_put u states p.pend h.sorted;
    held = h.held;
    there = h.there;
    states =
        λ a ss is. ⊎_elim (λ same. subst AreOfEntries same.1 its) (λ other. h.states a ss other.1) (keys.put_cases a u states ss p.pend is);
  }
  entries_worked (Commit role.Store u) p its h = h
  entries_worked (Commit role.Names u) p its h =
      without u (record p { held = moved (new_states u p) p.held }) (moved_entries (new_states u p) p (new_own u p h) h)
  entries_worked (Abort role.Store u) p its h = h
  entries_worked (Abort role.Names u) p its h = without u p h
  entries_worked (PutIntent u i) p its h = h
  entries_worked (RemoveIntent u) p its h = h

  -- some of the states are moved
  some_is_moved : (which : Uid → Bool) (ss : List ObjectState) (held : List (Uid × ObjectState)) →
      moved_some which ss held ≡ moved (filter (λ (s : ObjectState). which s.uid) ss) held
  some_is_moved which [] held = refl
  some_is_moved which (s ∷ ss) held = by (which s.uid) (some_is_moved which ss (put_uid s.uid s held)) (some_is_moved which ss held)
    where
      Kept : List ObjectState
      Kept = filter (λ (s : ObjectState). which s.uid) ss

      by : (b : Bool) → moved_some which ss (put_uid s.uid s held) ≡ moved Kept (put_uid s.uid s held) → moved_some which ss held
          ≡ moved Kept held → moved_some which ss (if b then put_uid s.uid s held else held) ≡ moved (cond b (s ∷ Kept) Kept) held
      by true with_it without_it = with_it
      by false with_it without_it = without_it

  entries_part : (which : Uid → Bool) (u : Uid) (p : Pair) → HasEntries x p → HasEntries x (pair_in_part which u p)
  entries_part which u p h = subst (λ m. HasEntries x (record p { held = m })) (sym (some_is_moved which (new_states u p) p.held))
      (moved_entries (filter (λ (s : ObjectState). which s.uid) (new_states u p)) p
      (λ s i. new_own u p h s (in_filter (λ (s : ObjectState). which s.uid) s (new_states u p) i).0) h)

  entries_stopped : (how : Stop) (w : Work) (d : Disk) → PreparesEntries (Do w) → HasEntries x d.names →
      HasEntries x (let c = stopped how w d in c.names)
  entries_stopped Before w d its h = h
  entries_stopped After w d its h = subst (HasEntries x) (sym (worked_names w d)) (entries_worked w d.names its h)
  entries_stopped (InPart which) Look d its h = h
  entries_stopped (InPart which) (PutInc i) d its h = h
  entries_stopped (InPart which) (Prepare r u states) d its h = h
  entries_stopped (InPart which) (Commit role.Store u) d its h = h
  entries_stopped (InPart which) (Commit role.Names u) d its h = entries_part which u d.names h
  entries_stopped (InPart which) (Abort r u) d its h = h
  entries_stopped (InPart which) (PutIntent u i) d its h = h
  entries_stopped (InPart which) (RemoveIntent u) d its h = h

  -- ---- the naming node

  abbrev Others : ℕ → Seen → Type 0
  Others k M = (1 == k) ≡ false → (n : Node) → M.nodes 1 ≡ Some n → IsEntryNode x n

  all_nodes : (k : ℕ) (d : Disk) (live : Option Parts) (M : Seen) → Others k M →
      ((1 == k) ≡ true → IsEntryNode x (record { number = k; disk = d; live = live })) → HaveEntries x (at k d live M)
  all_nodes k d live M others mine n is = by (1 == k) refl is
    where
      by : (b : Bool) → (1 == k) ≡ b → (if b then Some (record { number = k; disk = d; live = live }) else M.nodes 1) ≡ Some n →
          IsEntryNode x n
      by true e h = let same : record { number = k; disk = d; live = live } ≡ n = cc h in
          subst (λ (z : Node). IsEntryNode x z) same (mine e)
      by false e h = others e n h

  pub others_of : (k : ℕ) (d : Disk) (live : Option Parts) (M : Seen) → HaveEntries x (at k d live M) → Others k M
  others_of k d live M all off n is =
      all n (ap (λ b. if b then Some (record { number = k; disk = d; live = live }) else M.nodes 1) off ∙ is)

  pub mine_of : (k : ℕ) (d : Disk) (live : Option Parts) (M : Seen) → HaveEntries x (at k d live M) → (1 == k) ≡ true →
      IsEntryNode x (record { number = k; disk = d; live = live })
  mine_of k d live M all on = all (record { number = k; disk = d; live = live })
      (ap (λ b. if b then Some (record { number = k; disk = d; live = live }) else M.nodes 1) on)

  pub stop_entries : (e k : ℕ) (d : Disk) (live : Option Parts) (M : Seen) → HaveEntries x (at k d live M) → HaveEntries x (halted e k d M)
  stop_entries e k d live M all = all_nodes k d None M (others_of k d live M all) (λ on. let m = mine_of k d live M all on in
      record { disk = m.disk; live = λ t is. absurd (cc is) })

  -- what a handler leaves there
  abbrev pub LeftBy : List Effect → Parts → Pair → Type 0
  LeftBy es v p = AllOfEntries es × KnowsEntries x v.naming (names_left es p)

  pub entries_walk : (e k : ℕ) (v : Parts) (es : List Effect) (d : Disk) (M : Seen) → Others k M →
      ((1 == k) ≡ true → HasEntries x d.names × LeftBy es v d.names) → Walks (HaveEntries x) e k es (Up (HaveEntries x) k v) d M
  entries_walk e k v [] d M others its = all_nodes k d (Some v) M others (λ on.
      record { disk = (its on).0; live = λ t is. subst (λ (q : Parts). KnowsEntries x q.naming d.names) (some_is refl is) (its on).1.1 })
  entries_walk e k v (Do w ∷ es) d M others its = (
    λ how. all_nodes k (stopped how w d) None M others
        (λ on. record { disk = entries_stopped how w d (its on).1.0.0 (its on).0; live = λ t is. absurd (cc is) }),
    entries_walk e k v es (worked w d) M others (λ on. let h = its on in (
      subst (HasEntries x) (sym (worked_names w d)) (entries_worked w d.names h.1.0.0 h.0),
      (h.1.0.1, subst (λ p. KnowsEntries x v.naming (names_left es p)) (sym (worked_names w d)) h.1.1),
    )),
  )
  entries_walk e k v (Say l ∷ es) d M others its =
      entries_walk e k v es d (said e (l ∷ []) M) others (λ on. let h = its on in (h.0, (h.1.0.1, h.1.1)))
  entries_walk e k v (Send to m ∷ es) d M others its = λ more quiet. entries_walk e k v es d
      (said e more (posted (record { from = k; to = to; message = m }) M)) others (λ on. let h = its on in (h.0, (h.1.0.1, h.1.1)))

  -- effects that leave entries as they are, and naming too
  pub left_alone : (outs : List Effect) (v t : Parts) (p : Pair) → Leaves outs → v.naming ≡ t.naming → KnowsEntries x t.naming p →
      LeftBy outs v p
  left_alone outs v t p all same knows = (
    leaves_prepare outs all,
    subst (KnowsEntries x v.naming) (sym (left_same outs p all)) (subst (λ o. KnowsEntries x o p) (sym same) knows),
  )

  pub quiet_walk : (e k : ℕ) (d : Disk) (t v : Parts) (outs : List Effect) (M : Seen) → Leaves outs → v.naming ≡ t.naming →
      HaveEntries x (up k d t M) → Walks (HaveEntries x) e k outs (Up (HaveEntries x) k v) d M
  quiet_walk e k d t v outs M all same have = entries_walk e k v outs d M (others_of k d (Some t) M have)
      (λ on. let m = mine_of k d (Some t) M have on in (m.disk, left_alone outs v t d.names all same (m.live t refl)))

  -- ---- naming

  put_stays : (y : ℕ) (o : Named) (m : List (ℕ × Named)) → is_some (at_number x m) ≡ true → is_some (at_number x (put_number y o m)) ≡ true
  put_stays y o m there = ⊎_elim (λ (same : y ≡ x). ap (λ z. is_some (at_number z (put_number y o m))) (sym same)
      ∙ ap is_some (number_same y o m)) (λ other. ap is_some (number_other y x o m other.0) ∙ there) (one_or_two y x)

  pub each_stays : (f : ℕ → Named → Named) (m : List (ℕ × Named)) → is_some (at_number x m) ≡ true → is_some (at_number x (each f m)) ≡ true
  each_stays f m there = by (at_number x m) refl there
    where
      by : (o : Option Named) → at_number x m ≡ o → is_some o ≡ true → is_some (at_number x (each f m)) ≡ true
      by None is on = absurd (cc on)
      by (Some o) is on = ap is_some (each_at f x m o is)

  -- who is confirmed is as before, and the object isn't lost
  abbrev pub Stays : Naming → Naming → Type 0
  Stays n m = (m.confirmed ≡ n.confirmed) × (is_some (at_number x n.objects) ≡ true → is_some (at_number x m.objects) ≡ true)

  pub stays_known : (n m : Naming) (p : Pair) → Stays n m → IsInStep x n p → IsInStep x m p
  stays_known n m p s h = record { taken = λ a on. ap (λ c. is_on c a) s.0 ∙ h.taken a on; there = s.1 h.there }

  pub bind_stays : (p : Path) (y : ℕ) (include : Bool) (avoid : Binding) (d : Pair) (n : Naming) →
      Stays n (naming.bind p y include avoid d n).part
  bind_stays p y include avoid d n = by (is_over p n)
    where
      there : (o : Option Named) → Stays n (on_counted y (bind_named n.inc y p include avoid (listed_entry y d)) n o).part
      there None = (refl, λ h. h)
      there (Some o) = (refl, put_stays y _ n.objects)

      by : (over : Bool) → Stays n
          (if over then void n else on_counted y (bind_named n.inc y p include avoid (listed_entry y d)) n (at_number y n.objects)).part
      by true = (refl, λ h. h)
      by false = there (at_number y n.objects)

  pub note_stays : (p : Path) (y : ℕ) (b : Binding) (i g : ℕ) (n : Naming) → Stays n (naming.note p y b i g n).part
  note_stays p y b i g n = by (is_over p n || not (is_some (at_number y n.objects))) (g == n.inc)
    where
      there : (o : Option Named) → Stays n (on_named y (note_named y (top_of p) b i) n o).part
      there None = (refl, λ h. h)
      there (Some o) = (refl, put_stays y _ n.objects)

      by : (off same : Bool) → Stays n (if off then void n else (if same then on_named y (note_named y (top_of p) b i) n
          (at_number y n.objects) else reply n (recorded.Changed (what.Inc g n.inc)))).part
      by true same = (refl, λ h. h)
      by false true = there (at_number y n.objects)
      by false false = (refl, λ h. h)

  locks_stay : (ys : List ℕ) (p : Path) (n : Naming) → Stays n (lock_all ys p n).part
  locks_stay [] p n = (refl, λ h. h)
  locks_stay (y ∷ ys) p n = let m = (lock_in y p n (at_number y n.objects)).part in let f = one (at_number y n.objects) in
      let r = locks_stay ys p m in (r.0 ∙ f.0, λ h. r.1 (f.1 h))
    where
      one : (o : Option Named) → Stays n (lock_in y p n o).part
      one None = (refl, λ h. h)
      one (Some o) = (refl, put_stays y _ n.objects)

  -- ---- a Confirm

  confirms_known : (u : Uid) (n : Naming) (p : Pair) → IsInStep x n p → IsInStep x (confirms u n) p
  confirms_known u n p h = record { taken = λ a on. with_on a u n.confirmed (inr (h.taken a on)); there = h.there }

  -- what a Confirm leaves
  abbrev ConfirmLeaves : Served Naming ConfirmedReply → Pair → Type 0
  ConfirmLeaves r p = AllOfEntries r.outs × IsInStep x r.part (names_left r.outs p)

  new_entries : (top : Uid) (grants : Grants) (excluded included : Marks) (d : Pair) →
      AreOfEntries (entries_after top grants excluded included d)
  new_entries top grants excluded included d s c =
      let f = in_filter_map (λ (g : ℕ × ℕ). entry_after top excluded included g.0 (held_at (entry g.0) d)) s grants
      (in_from s (entries_after top grants excluded included d) c) in
      from f.0.0 (held_at (entry f.0.0) d) f.2
    where
      from : (y : ℕ) (o : Option ObjectState) → entry_after top excluded included y o ≡ Some s → s.uid ≡ entry s.uid.num
      from y None h = absurd (cc h)
      from y (Some st) h = by (same_nodes (stores_after y excluded included (state_entry st)) (state_entry st).stores) h
        where
          by : (b : Bool) → (if b then None else Some (entry_state y top st (stores_after y excluded included (state_entry st))))
              ≡ Some s → s.uid ≡ entry s.uid.num
          by true h = absurd (cc h)
          by false h = let same : entry_state y top st (stores_after y excluded included (state_entry st)) ≡ s = cc h in
              let its = ap (λ (k : ObjectState). k.uid) (sym same) in its ∙ ap (λ (w : Uid). entry w.num) (sym its)

  module _ (p : Path) (grants : Grants) (excluded included : Marks) (d : Pair) (n : Naming) (h : IsInStep x n d) where
    abbrev Locks : Did Naming
    Locks = lock_all (wanted (top_of p) grants excluded d) p n

    locks_leave : Leaves Locks.outs
    locks_leave = says_leave Locks.outs (locks_say (wanted (top_of p) grants excluded d) p n)

    locked : IsInStep x Locks.part d
    locked = stays_known n Locks.part d (locks_stay (wanted (top_of p) grants excluded d) p n) h

    -- locks alone, and the store that is read
    looked : (r : ConfirmedReply) → ConfirmLeaves (record { part = Locks.part; outs = Locks.outs ++ Do Look ∷ []; reply = Some r }) d
    looked r = let all = leaves_both Locks.outs (Do Look ∷ []) locks_leave refl in (
      leaves_prepare (Locks.outs ++ Do Look ∷ []) all,
      subst (IsInStep x Locks.part) (sym (left_same (Locks.outs ++ Do Look ∷ []) d all)) locked,
    )

    answered : (ss : List ObjectState) → AreOfEntries ss → (a : Prep) → ConfirmLeaves (prepared_by (top_of p) ss Locks a) d
    answered ss own Ready = (
      all_prepare Locks.outs (Do Look ∷ Do (Prepare role.Names (top_of p) ss) ∷ Say (body.Prepared 1 (top_of p) role.Names) ∷ [])
          (leaves_prepare Locks.outs locks_leave) (tt, (own, (tt, tt))),
      subst (IsInStep x (confirms (top_of p) Locks.part))
          (sym (left_both Locks.outs (Do Look ∷ Do (Prepare role.Names (top_of p) ss) ∷ Say (body.Prepared 1 (top_of p) role.Names) ∷ []) d
          ∙ ap (λ q. names_worked (Prepare role.Names (top_of p) ss) q) (left_same Locks.outs d locks_leave))) (record {
            taken = λ a on. with_on a (top_of p) Locks.part.confirmed (who a (at_uid a (put_uid (top_of p) ss d.pend)) refl on);
            there = locked.there;
          }),
    )
      where
        who : (a : Uid) (o : Option (List ObjectState)) → at_uid a (put_uid (top_of p) ss d.pend) ≡ o → is_some o ≡ true →
            (a ≡ top_of p) ⊎ (is_on Locks.part.confirmed a ≡ true)
        who a None is on = absurd (cc on)
        who a (Some states) is on = ⊎_elim (λ same. inl same.0) (λ other. inr (locked.taken a (ap is_some other.1)))
            (keys.put_cases a (top_of p) ss states d.pend is)
    answered ss own (Already u) = looked (confirmed.Conflict (top_of p) mode.Write)
    answered ss own (Old u v) = looked (confirmed.Conflict nobody mode.Write)
    answered ss own (InDoubt u v) = looked (confirmed.Conflict v mode.Write)

    pub confirm_leaves : ConfirmLeaves (confirm p grants excluded included d n) d
    confirm_leaves = by (is_over p n || not (has_all grants n)) (is_on n.confirmed (top_of p) || is_prepared (top_of p) d)
      where
        entered : (ss : List ObjectState) → AreOfEntries ss → ConfirmLeaves (confirm_entries (top_of p) ss d Locks) d
        entered [] own = (
          leaves_prepare Locks.outs locks_leave,
          subst (IsInStep x (confirms (top_of p) Locks.part)) (sym (left_same Locks.outs d locks_leave))
              (confirms_known (top_of p) Locks.part d locked),
        )
        entered (s ∷ ss) own = answered (s ∷ ss) own (prepare_answer (top_of p) (s ∷ ss) d)

        new : (c : Option ConfirmedReply) → ConfirmLeaves (confirm_new p grants excluded included d n c) d
        new (Some r) = (tt, h)
        new None = entered (entries_after (top_of p) grants excluded included d) (new_entries (top_of p) grants excluded included d)

        by : (over again : Bool) → ConfirmLeaves (if over then void n else (if again then reply (confirms (top_of p) n) confirmed.Yes else
            confirm_new p grants excluded included d n (checked p grants excluded included d n))) d
        by true again = (tt, h)
        by false true = (tt, confirms_known (top_of p) n d h)
        by false false = new (checked p grants excluded included d n)
