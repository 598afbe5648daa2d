-- The entries on the disk after an end that naming is told.
use Rattle.arj_law_parts.proofs.Words
use Words.{◌≡◌, ℕ, List, [], ◌∷◌, ◌++◌, Bool, true, false, Some, None, refl, sym, ◌∙◌, ap, subst, ⊎_elim, append_assoc, list_all}
use Words.{if◌then◌else◌, and_parts, uid_eq, Uid, End, ObjectState, is_on, Disk, Effect, Say, Send, Do, Pair, pair_aborted, pair_committed}
use Words.{pair_prepared, Work, Look, PutInc, Prepare, Commit, Abort, PutIntent, RemoveIntent, did_nothing, is_prepared, worked, Naming}
use Words.{end_entries, end_lines, end_orphans, has_locks, orphans, own_entries, taken_end, told_new, Parts, ack_told, end_states}
use Words.{store_told, at_uid, without_uid, AreAll, is_server_effect, all_both, all_flat, all_if, ends_own, uid_cases, uid_is, flat_map}
use Words.body
use Words.ending
use Words.part
use Words.role
use Words.server
use Rattle.arj_law_disk_view.proofs.Terms.{never, AreSorted, never_some, or_cases}
use Rattle.arj_law_disk_view.proofs.{names.Pairing.left_disk, view.NamingTold.without_none, view.StoreSteps.unprepared}
use Rattle.arj_law_disk_view.proofs.view.Keys as keys

-- ---- the entries on the disk

-- the entries that effects leave on the disk
abbrev pub names_worked : Work → Pair → Pair
names_worked (Prepare role.Names a states) p = pair_prepared a states p
names_worked (Commit role.Names a) p = pair_committed a p
names_worked (Abort role.Names a) p = pair_aborted a p
names_worked _ p = p

abbrev pub names_left : List Effect → Pair → Pair
names_left [] p = p
names_left (Do w ∷ es) p = names_left es (names_worked w p)
names_left (Say b ∷ es) p = names_left es p
names_left (Send to m ∷ es) p = names_left es p

pub worked_names : (w : Work) (d : Disk) → (worked w d).names ≡ names_worked w d.names
worked_names Look d = refl
worked_names (PutInc i) d = refl
worked_names (Prepare role.Store a states) d = refl
worked_names (Prepare role.Names a states) d = refl
worked_names (Commit role.Store a) d = refl
worked_names (Commit role.Names a) d = refl
worked_names (Abort role.Store a) d = refl
worked_names (Abort role.Names a) d = refl
worked_names (PutIntent u i) d = refl
worked_names (RemoveIntent u) d = refl

pub left_names : (es : List Effect) (d : Disk) → (left_disk es d).names ≡ names_left es d.names
left_names [] d = refl
left_names (Say b ∷ es) d = left_names es d
left_names (Send to m ∷ es) d = left_names es d
left_names (Do w ∷ es) d = left_names es (worked w d) ∙ ap (names_left es) (worked_names w d)

pub left_both : (es fs : List Effect) (p : Pair) → names_left (es ++ fs) p ≡ names_left fs (names_left es p)
left_both [] fs p = refl
left_both (Say b ∷ es) fs p = left_both es fs p
left_both (Send to m ∷ es) fs p = left_both es fs p
left_both (Do w ∷ es) fs p = left_both es fs (names_worked w p)

-- nothing is prepared
abbrev pub prepares_none : Effect → Bool
prepares_none (Do (Prepare r a states)) = false
prepares_none _ = true

module _ (u : Uid) where
  none_without : (a : Uid) (m : List (Uid × List ObjectState)) → at_uid u m ≡ None → at_uid u (without_uid a m) ≡ None
  none_without a m none = ⊎_elim (λ same. ap (at_uid u) (ap (λ w. without_uid w m) (sym same) ∙ without_none u m none) ∙ none)
      (λ other. keys.without_other u a m other ∙ none) (uid_cases u a)

  none_worked : (w : Work) (p : Pair) → prepares_none (Do w) ≡ true → at_uid u p.pend ≡ None → at_uid u (names_worked w p).pend ≡ None
  none_worked Look p is none = none
  none_worked (PutInc i) p is none = none
  none_worked (Prepare r a states) p is none = absurd (never is refl)
  none_worked (Commit role.Store a) p is none = none
  none_worked (Commit role.Names a) p is none = none_without a p.pend none
  none_worked (Abort role.Store a) p is none = none
  none_worked (Abort role.Names a) p is none = none_without a p.pend none
  none_worked (PutIntent v i) p is none = none
  none_worked (RemoveIntent v) p is none = none

  none_left : (es : List Effect) (p : Pair) → AreAll prepares_none es → at_uid u p.pend ≡ None → at_uid u (names_left es p).pend ≡ None
  none_left [] p all none = none
  none_left (Say b ∷ es) p all none = none_left es p all none
  none_left (Send to m ∷ es) p all none = none_left es p all none
  none_left (Do w ∷ es) p all none = let q = and_parts (prepares_none (Do w)) (list_all prepares_none es) all in
      none_left es (names_worked w p) q.1 (none_worked w p q.0 none)

-- ---- an end's effects prepare nothing, and end what the action has prepared

server_none : (k : ℕ) (es : List Effect) → AreAll (is_server_effect k) es → AreAll prepares_none es
server_none k [] all = refl
server_none k (Say b ∷ es) all = server_none k es (and_parts (is_server_effect k (Say b)) (list_all (is_server_effect k) es) all).1
server_none k (Send to m ∷ es) all = absurd (cc all)
server_none k (Do w ∷ es) all = absurd (cc all)

store_same : (u : Uid) (how : End) (d p : Pair) → names_left (store_told 1 u how d) p ≡ p
store_same u how d p = by how (is_prepared u d)
  where
    by : (how : End) (b : Bool) → names_left (if b then end_states 1 u how else []) p ≡ p
    by ending.Commit true = refl
    by ending.Commit false = refl
    by ending.Abort true = refl
    by ending.Abort false = refl

module _ (u : Uid) (how : End) (d : Disk) (t : Parts) (n : Naming) (from : ℕ) (ack : Bool) (ends : List (Uid × End)) where
  abbrev Part_outs : List Effect
  Part_outs = let r = (if is_on n.told u then did_nothing n else told_new u (taken_end u how n) d.names n) in r.outs

  abbrev Served : List Effect
  Served = (server.told 1 ends t.server).outs

  part_none : AreAll prepares_none Part_outs
  part_none = by (is_on n.told u)
    where
      orphans_none : (e : End) → AreAll prepares_none (end_orphans u e d.names n)
      orphans_none ending.Commit = refl
      orphans_none ending.Abort = all_flat prepares_none (λ a. end_entries a ending.Abort) (orphans u d.names n) (λ a. refl)

      by : (b : Bool) → AreAll prepares_none (let r = (if b then did_nothing n else told_new u (taken_end u how n) d.names n) in r.outs)
      by true = refl
      by false = all_both prepares_none (end_orphans u (taken_end u how n) d.names n) (end_lines u (taken_end u how n) n)
          (orphans_none (taken_end u how n))
          (all_if prepares_none (has_locks u n) (Say (body.Told 1 u (taken_end u how n) part.Naming) ∷ []) [] refl refl)

  own_gone : AreSorted d.names.pend → at_uid u (names_left (own_entries u how d.names) d.names).pend ≡ None
  own_gone sorted = by how (is_prepared u d.names) refl
    where
      by : (how : End) (b : Bool) → is_prepared u d.names ≡ b →
          at_uid u (names_left (if b then end_entries u how else []) d.names).pend ≡ None
      by ending.Commit true is = keys.without_same u d.names.pend sorted
      by ending.Abort true is = keys.without_same u d.names.pend sorted
      by ending.Commit false is = unprepared u d.names is
      by ending.Abort false is = unprepared u d.names is

  -- the action's own entries, naming's part, and what leaves the entries
  outs_split : names_left (store_told 1 u how d.store ++ (own_entries u how d.names ++ Part_outs) ++ Served ++ ack_told from u ack) d.names
      ≡ names_left (Part_outs ++ (Served ++ ack_told from u ack)) (names_left (own_entries u how d.names) d.names)
  outs_split = ap (λ es. names_left es d.names)
      (append_assoc (store_told 1 u how d.store ++ (own_entries u how d.names ++ Part_outs)) Served (ack_told from u ack)
      ∙ append_assoc (store_told 1 u how d.store) (own_entries u how d.names ++ Part_outs) (Served ++ ack_told from u ack))
      ∙ left_both (store_told 1 u how d.store) ((own_entries u how d.names ++ Part_outs) ++ (Served ++ ack_told from u ack)) d.names
      ∙ ap (names_left ((own_entries u how d.names ++ Part_outs) ++ (Served ++ ack_told from u ack))) (store_same u how d.store d.names)
      ∙ ap (λ es. names_left es d.names) (append_assoc (own_entries u how d.names) Part_outs (Served ++ ack_told from u ack))
      ∙ left_both (own_entries u how d.names) (Part_outs ++ (Served ++ ack_told from u ack)) d.names

  pub outs_gone : AreSorted d.names.pend → at_uid u (names_left
      (store_told 1 u how d.store ++ (own_entries u how d.names ++ Part_outs) ++ Served ++ ack_told from u ack) d.names).pend ≡ None
  outs_gone sorted = subst (λ (p : Pair). at_uid u p.pend ≡ None) (sym outs_split)
      (none_left u (Part_outs ++ (Served ++ ack_told from u ack)) (names_left (own_entries u how d.names) d.names)
      (all_both prepares_none Part_outs (Served ++ ack_told from u ack) part_none (all_both prepares_none Served (ack_told from u ack)
      (server_none 1 Served (ends_own 1 ends t.server)) (acked ack))) (own_gone sorted))
    where
      acked : (b : Bool) → AreAll prepares_none (ack_told from u b)
      acked true = refl
      acked false = refl

-- ---- what is left was there

module _ (a : Uid) where
  some_worked : (w : Work) (p : Pair) (states : List ObjectState) → prepares_none (Do w) ≡ true → AreSorted p.pend →
      at_uid a (names_worked w p).pend ≡ Some states → at_uid a p.pend ≡ Some states
  some_worked Look p states is sorted there = there
  some_worked (PutInc i) p states is sorted there = there
  some_worked (Prepare r b new) p states is sorted there = absurd (never is refl)
  some_worked (Commit role.Store b) p states is sorted there = there
  some_worked (Commit role.Names b) p states is sorted there = (keys.without_cases a b states p.pend sorted there).1
  some_worked (Abort role.Store b) p states is sorted there = there
  some_worked (Abort role.Names b) p states is sorted there = (keys.without_cases a b states p.pend sorted there).1
  some_worked (PutIntent v i) p states is sorted there = there
  some_worked (RemoveIntent v) p states is sorted there = there

  sorted_worked : (w : Work) (p : Pair) → prepares_none (Do w) ≡ true → AreSorted p.pend → AreSorted (names_worked w p).pend
  sorted_worked Look p is sorted = sorted
  sorted_worked (PutInc i) p is sorted = sorted
  sorted_worked (Prepare r b new) p is sorted = absurd (never is refl)
  sorted_worked (Commit role.Store b) p is sorted = sorted
  sorted_worked (Commit role.Names b) p is sorted = keys.sorted_without b p.pend sorted
  sorted_worked (Abort role.Store b) p is sorted = sorted
  sorted_worked (Abort role.Names b) p is sorted = keys.sorted_without b p.pend sorted
  sorted_worked (PutIntent v i) p is sorted = sorted
  sorted_worked (RemoveIntent v) p is sorted = sorted

  some_left : (es : List Effect) (p : Pair) (states : List ObjectState) → AreAll prepares_none es → AreSorted p.pend →
      at_uid a (names_left es p).pend ≡ Some states → at_uid a p.pend ≡ Some states
  some_left [] p states all sorted there = there
  some_left (Say b ∷ es) p states all sorted there = some_left es p states all sorted there
  some_left (Send to m ∷ es) p states all sorted there = some_left es p states all sorted there
  some_left (Do w ∷ es) p states all sorted there =
      let q = and_parts (prepares_none (Do w)) (list_all prepares_none es) all in
      some_worked w p states q.0 sorted (some_left es (names_worked w p) states q.1 (sorted_worked w p q.0 sorted) there)

  -- an orphan's entries are gone
  orphan_gone : (us : List Uid) (p : Pair) → AreSorted p.pend → is_on us a ≡ true →
      at_uid a (names_left (flat_map (λ b. end_entries b ending.Abort) us) p).pend ≡ None
  orphan_gone [] p sorted on = absurd (never on refl)
  orphan_gone (b ∷ us) p sorted on = ⊎_elim
      (λ (same : a ≡ b). none_left a (flat_map (λ b. end_entries b ending.Abort) us) (pair_aborted b p)
      (all_flat prepares_none (λ b. end_entries b ending.Abort) us (λ b. refl))
      (ap (λ w. at_uid a (without_uid w p.pend)) (sym same) ∙ keys.without_same a p.pend sorted))
      (λ other. orphan_gone us (pair_aborted b p) (keys.sorted_without b p.pend sorted) (⊎_elim
      (λ (same : uid_eq b a ≡ true). absurd (other (sym (uid_is b a same)))) (λ more. more) (or_cases (uid_eq b a) (is_on us a) on)))
      (uid_cases a b)

module _ (u : Uid) (how : End) (d : Disk) (t : Parts) (n : Naming) (from : ℕ) (ack : Bool) (ends : List (Uid × End))
    (sorted : AreSorted d.names.pend) where
  abbrev pub Whole_outs : List Effect
  Whole_outs = store_told 1 u how d.store ++ (own_entries u how d.names ++ Part_outs u how d t n from ack ends)
      ++ Served u how d t n from ack ends ++ ack_told from u ack

  pub outs_none : AreAll prepares_none Whole_outs
  outs_none = all_both prepares_none (store_told 1 u how d.store ++ (own_entries u how d.names ++ Part_outs u how d t n from ack ends)
      ++ Served u how d t n from ack ends) (ack_told from u ack)
      (all_both prepares_none (store_told 1 u how d.store ++ (own_entries u how d.names ++ Part_outs u how d t n from ack ends))
      (Served u how d t n from ack ends)
      (all_both prepares_none (store_told 1 u how d.store) (own_entries u how d.names ++ Part_outs u how d t n from ack ends)
      (stored how (is_prepared u d.store))
      (all_both prepares_none (own_entries u how d.names) (Part_outs u how d t n from ack ends) (own how (is_prepared u d.names))
      (part_none u how d t n from ack ends)))
      (server_none 1 (Served u how d t n from ack ends) (ends_own 1 ends t.server))) (acked ack)
    where
      stored : (how : End) (b : Bool) → AreAll prepares_none (if b then end_states 1 u how else [])
      stored ending.Commit true = refl
      stored ending.Abort true = refl
      stored ending.Commit false = refl
      stored ending.Abort false = refl

      own : (how : End) (b : Bool) → AreAll prepares_none (if b then end_entries u how else [])
      own ending.Commit true = refl
      own ending.Abort true = refl
      own ending.Commit false = refl
      own ending.Abort false = refl

      acked : (b : Bool) → AreAll prepares_none (ack_told from u b)
      acked true = refl
      acked false = refl

  -- who is left was prepared before
  pub left_was : (a : Uid) (states : List ObjectState) → at_uid a (names_left Whole_outs d.names).pend ≡ Some states →
      at_uid a d.names.pend ≡ Some states
  left_was a states there = some_left a Whole_outs d.names states outs_none sorted there

  -- and is no orphan of an abort that naming is told for the first time
  pub no_orphan : (a : Uid) (states : List ObjectState) → is_on n.told u ≡ false → how ≡ ending.Abort →
      at_uid a (names_left Whole_outs d.names).pend ≡ Some states → is_on (orphans u d.names n) a ≡ true → ⊥
  no_orphan a states new aborted there on = never_some there (subst (λ (p : Pair). at_uid a p.pend ≡ None) (sym split) (none_left a Rest
      (names_left (end_orphans u ending.Abort d.names n) Own) rest_none (orphan_gone a (orphans u d.names n) Own own_sorted on)))
    where
      Own : Pair
      Own = names_left (own_entries u how d.names) d.names

      own_sorted : AreSorted Own.pend
      own_sorted = by how (is_prepared u d.names)
        where
          by : (how : End) (b : Bool) → AreSorted (names_left (if b then end_entries u how else []) d.names).pend
          by ending.Commit true = keys.sorted_without u d.names.pend sorted
          by ending.Abort true = keys.sorted_without u d.names.pend sorted
          by ending.Commit false = sorted
          by ending.Abort false = sorted

      Rest : List Effect
      Rest = end_lines u ending.Abort n ++ (Served u how d t n from ack ends ++ ack_told from u ack)

      acked : (b : Bool) → AreAll prepares_none (ack_told from u b)
      acked true = refl
      acked false = refl

      rest_none : AreAll prepares_none Rest
      rest_none = all_both prepares_none (end_lines u ending.Abort n) (Served u how d t n from ack ends ++ ack_told from u ack)
          (all_if prepares_none (has_locks u n) (Say (body.Told 1 u ending.Abort part.Naming) ∷ []) [] refl refl)
          (all_both prepares_none (Served u how d t n from ack ends) (ack_told from u ack)
          (server_none 1 (Served u how d t n from ack ends) (ends_own 1 ends t.server)) (acked ack))

      part_is : Part_outs u how d t n from ack ends ≡ end_orphans u ending.Abort d.names n ++ end_lines u ending.Abort n
      part_is = (λ i. let r = (if new i then did_nothing n else told_new u (taken_end u (aborted i) n) d.names n) in r.outs)

      split : names_left Whole_outs d.names ≡ names_left Rest (names_left (end_orphans u ending.Abort d.names n) Own)
      split = outs_split u how d t n from ack ends
          ∙ ap (λ es. names_left (es ++ (Served u how d t n from ack ends ++ ack_told from u ack)) Own) part_is
          ∙ ap (λ es. names_left es Own) (append_assoc (end_orphans u ending.Abort d.names n) (end_lines u ending.Abort n)
          (Served u how d t n from ack ends ++ ack_told from u ack))
          ∙ left_both (end_orphans u ending.Abort d.names n) Rest Own
