-- A Confirm in memory: its locks, and what it comes to.
use Rattle.std.proofs.Common.{◌≡◌, ◌∙◌, ◌≤◌, ◌==◌, ◌||◌, ℕ, suc, Bool, true, false, cond, List, [], ◌∷◌, ◌++◌, map, filter, length, refl}
use Rattle.std.proofs.Common.{sym, ap, subst, Option, Some, None, arith}
use Rattle.std.specs.Prelude.{IfSome, option_map}
use Rattle.std.specs.List.{AllByRecursion, IsDistinct, cons_option}
use Rattle.std.specs.Ordering.{is_eq, nat_cmp}
use Rattle.std.proofs.lemmas.Bool.{or_parts, eqb-true}
use Rattle.std.proofs.lemmas.Bool.Decides.{nat_tests}
use Rattle.arj_base.specs.Rows.{last_uid}
use Rattle.arj_base.specs.Uid.{entry, uid_eq}
use Rattle.arj_base.specs.declared.path.Path.{Path}
use Rattle.arj_base.specs.declared.state.ObjectState.{ObjectState}
use Rattle.arj_base.specs.declared.uid.Uid.{Uid}
use Rattle.arj_entry.specs.Entry.{is_listed}
use Rattle.arj_journal.specs.declared.body.Line.{Line}
use Rattle.arj_msg.specs.declared.message.ConfirmedReply.{ConfirmedReply}
use Rattle.arj_naming.specs.Confirming.{AreLines, IsAnswered, IsReady}
use Rattle.arj_naming.specs.Entries.{IsEntryState, IsNewState, IsOnce}
use Rattle.arj_naming.specs.Said.{said}
use Rattle.arj_protocol.proofs.Maps.{put_other}
use Rattle.arj_protocol.specs.Ask.{top_of}
use Rattle.arj_protocol.specs.Confirm.{Grants, Marks, checked, conflict_in, confirm_entries, confirm_new, confirms, entries_after}
use Rattle.arj_protocol.specs.Confirm.{entry_after, entry_state, first_of_each, is_bare, is_there, lock_all, lock_in, other_grant}
use Rattle.arj_protocol.specs.Confirm.{prepared_by, refused_exclude, same_nodes, stores_after, wanted}
use Rattle.arj_protocol.specs.Copy.{is_granted}
use Rattle.arj_protocol.specs.Effect.{Effect, Say, Send, Do, Pair, either, held_at, is_prepared, prepare_answer}
use Rattle.arj_protocol.specs.Named.{Named, locked}
use Rattle.arj_protocol.specs.Naming.{Naming}
use Rattle.arj_protocol.specs.Order.{at_number}
use Rattle.arj_protocol.specs.Values.{state_entry}
use Rattle.arj_protocol.specs.Words.body
use Rattle.arj_protocol.specs.Words.confirmed
use Rattle.arj_protocol.specs.Words.mode

-- ---- the objects that are locked

stays_out : (f : ℕ → Bool) (n : ℕ) (ns : List ℕ) → is_listed n ns ≡ false → is_listed n (filter f ns) ≡ false
stays_out f n [] none = refl
stays_out f n (m ∷ ms) none =
    by (f m) (or_parts (m == n) (is_listed n ms) none) (stays_out f n ms (or_parts (m == n) (is_listed n ms) none).1)
  where
    by : (b : Bool) → ((m == n) ≡ false) × (is_listed n ms ≡ false) → is_listed n (filter f ms) ≡ false →
        is_listed n (cond b (m ∷ filter f ms) (filter f ms)) ≡ false
    by true p rest = λ i. p.0 i || rest i
    by false p rest = rest

pub once_filter : (f : ℕ → Bool) (ns : List ℕ) → IsOnce ns → IsOnce (filter f ns)
once_filter f [] once = tt
once_filter f (n ∷ ns) once = by (f n) (once_filter f ns once.1)
  where
    by : (b : Bool) → IsOnce (filter f ns) → IsOnce (cond b (n ∷ filter f ns) (filter f ns))
    by true rest = (stays_out f n ns once.0, rest)
    by false rest = rest

-- a lock on another entry stands against nothing here
other_free : (p : Path) (x y : ℕ) (n : Naming) (o : Option Named) → (y == x) ≡ false →
    refused_exclude p (lock_in x p n o).part y ≡ refused_exclude p n y
other_free p x y n None other = refl
other_free p x y n (Some o) other =
    let apart : is_eq (nat_cmp y x) ≡ false = grind (arith, nat_tests) in
    λ i. option_map (λ r. confirmed.Conflict (last_uid r.holder) r.mode) (conflict_in y p (put_other x y (locked x p mode.Exclude o) n.objects apart i))

pub still_free : (p : Path) (x : ℕ) (ys : List ℕ) (n : Naming) (o : Option Named) → is_listed x ys ≡ false →
    first_of_each (refused_exclude p n) ys ≡ None → first_of_each (refused_exclude p (lock_in x p n o).part) ys ≡ None
still_free p x [] n o apart free = refl
still_free p x (y ∷ ys) n o apart free = by (refused_exclude p n y) refl free (still_free p x ys n o parts.1)
  where
    parts : ((y == x) ≡ false) × (is_listed x ys ≡ false)
    parts = or_parts (y == x) (is_listed x ys) apart

    by : (r : Option ConfirmedReply) → refused_exclude p n y ≡ r → either r (first_of_each (refused_exclude p n) ys) ≡ None
        → (first_of_each (refused_exclude p n) ys ≡ None → first_of_each (refused_exclude p (lock_in x p n o).part) ys ≡ None)
        → either (refused_exclude p (lock_in x p n o).part y) (first_of_each (refused_exclude p (lock_in x p n o).part) ys) ≡ None
    by None is free rest =
        (λ i. either ((other_free p x y n o parts.0 ∙ is) i) (first_of_each (refused_exclude p (lock_in x p n o).part) ys)) ∙ rest free
    by (Some r) is free rest = absurd (cc free)

-- ---- locks say lines and do nothing

lines_append : (a b : List Effect) → AreLines a → AreLines b → AreLines (a ++ b)
lines_append [] b la lb = lb
lines_append (Say t ∷ es) b la lb = lines_append es b la lb
lines_append (Send to m ∷ es) b la lb = absurd la
lines_append (Do w ∷ es) b la lb = absurd la

one_lock : (x : ℕ) (p : Path) (n : Naming) (o : Option Named) → AreLines (lock_in x p n o).outs
one_lock x p n None = tt
one_lock x p n (Some o) = by (is_granted (entry x) (top_of p) mode.Exclude o.rows)
  where
    by : (b : Bool) → AreLines (cond b [] (Say (body.Granted 1 (top_of p) (entry x) mode.Exclude) ∷ []))
    by true = tt
    by false = tt

pub only_lines : (xs : List ℕ) (p : Path) (n : Naming) → AreLines (lock_all xs p n).outs
only_lines [] p n = tt
only_lines (x ∷ xs) p n =
    lines_append (lock_in x p n (at_number x n.objects)).outs (lock_all xs p (lock_in x p n (at_number x n.objects)).part).outs (one_lock x p n (at_number x n.objects)) (only_lines xs p (lock_in x p n (at_number x n.objects)).part)

-- ---- the entries that change

own_uid : (top : Uid) (ex inc : Marks) (x : ℕ) (held : Option ObjectState) → IfSome (entry_after top ex inc x held) (λ s. s.uid ≡ entry x)
own_uid top ex inc x None = tt
own_uid top ex inc x (Some h) = by (same_nodes (stores_after x ex inc (state_entry h)) (state_entry h).stores)
  where
    by : (b : Bool) → IfSome (cond b None (Some (entry_state x top h (stores_after x ex inc (state_entry h))))) (λ s. s.uid ≡ entry x)
    by true = tt
    by false = refl

apart_front : (x y : ℕ) (o : Option ObjectState) (ss : List ObjectState) → (y == x) ≡ false → IfSome o (λ s. s.uid ≡ entry y) →
    AllByRecursion (λ u. uid_eq (entry x) u ≡ false) (map (λ (s : ObjectState). s.uid) ss)
    → AllByRecursion (λ u. uid_eq (entry x) u ≡ false) (map (λ (s : ObjectState). s.uid) (cons_option o ss))
apart_front x y None ss other own all = all
apart_front x y (Some s) ss other own all = (ap (uid_eq (entry x)) own ∙ turned, all)
  where
    turned : uid_eq (entry x) (entry y) ≡ false
    turned = grind (arith, nat_tests)

apart_entries : (top : Uid) (ex inc : Marks) (d : Pair) (x : ℕ) (gs : Grants) → is_listed x (map (λ (g : ℕ × ℕ). g.0) gs) ≡ false
    → AllByRecursion (λ u. uid_eq (entry x) u ≡ false) (map (λ (s : ObjectState). s.uid) (entries_after top gs ex inc d))
apart_entries top ex inc d x [] none = tt
apart_entries top ex inc d x (g ∷ gs) none =
    let p = or_parts (g.0 == x) (is_listed x (map (λ (k : ℕ × ℕ). k.0) gs)) none in
    by (entry_after top ex inc g.0 (held_at (entry g.0) d)) (own_uid top ex inc g.0 (held_at (entry g.0) d)) p.0 (apart_entries top ex inc d x gs p.1)
  where
    by : (o : Option ObjectState) → IfSome o (λ s. s.uid ≡ entry g.0) → (g.0 == x) ≡ false →
        AllByRecursion (λ u. uid_eq (entry x) u ≡ false) (map (λ (s : ObjectState). s.uid) (entries_after top gs ex inc d))
        → AllByRecursion (λ u. uid_eq (entry x) u ≡ false) (map (λ (s : ObjectState). s.uid) (cons_option o (entries_after top gs ex inc d)))
    by o own other all = apart_front x g.0 o (entries_after top gs ex inc d) other own all

pub distinct_entries : (top : Uid) (ex inc : Marks) (d : Pair) (gs : Grants) → IsOnce (map (λ (g : ℕ × ℕ). g.0) gs) →
    IsDistinct uid_eq (map (λ (s : ObjectState). s.uid) (entries_after top gs ex inc d))
unfolding IsDistinct
distinct_entries top ex inc d [] once = tt
distinct_entries top ex inc d (g ∷ gs) once =
    by (entry_after top ex inc g.0 (held_at (entry g.0) d)) (own_uid top ex inc g.0 (held_at (entry g.0) d)) (apart_entries top ex inc d g.0 gs once.0) (distinct_entries top ex inc d gs once.1)
  where
    by : (o : Option ObjectState) → IfSome o (λ s. s.uid ≡ entry g.0) →
        AllByRecursion (λ u. uid_eq (entry g.0) u ≡ false) (map (λ (s : ObjectState). s.uid) (entries_after top gs ex inc d))
        → IsDistinct uid_eq (map (λ (s : ObjectState). s.uid) (entries_after top gs ex inc d)) →
        IsDistinct uid_eq (map (λ (s : ObjectState). s.uid) (cons_option o (entries_after top gs ex inc d)))
    by None own apart rest = rest
    by (Some s) own apart rest =
        (subst (λ u. AllByRecursion (λ w. uid_eq u w ≡ false) (map (λ (t : ObjectState). t.uid) (entries_after top gs ex inc d))) (sym own) apart, rest)

pub few_entries : (top : Uid) (ex inc : Marks) (d : Pair) (gs : Grants) → length (entries_after top gs ex inc d) ≤ length gs
few_entries top ex inc d [] = omega arith
few_entries top ex inc d (g ∷ gs) = by (entry_after top ex inc g.0 (held_at (entry g.0) d)) (few_entries top ex inc d gs)
  where
    by : (o : Option ObjectState) → length (entries_after top gs ex inc d) ≤ length gs →
        length (cons_option o (entries_after top gs ex inc d)) ≤ suc (length gs)
    by None few = omega (arith, few)
    by (Some s) few = omega (arith, few)

-- ---- no entry is left without a store

stored : (ns : List ℕ) → same_nodes ns [] ≡ false → 1 ≤ length ns
stored [] none = absurd (cc none)
stored (n ∷ ns) some = omega arith

pub all_stored : (ss : List ObjectState) → AllByRecursion (λ s. IsNewState s.uid s) ss → first_of_each is_bare ss ≡ None →
    AllByRecursion (λ s. IsEntryState s.uid s) ss
all_stored [] all none = tt
all_stored (s ∷ ss) all none = by (same_nodes (state_entry s).stores []) refl none (all_stored ss all.1)
  where
    by : (b : Bool) → same_nodes (state_entry s).stores [] ≡ b →
        either (cond b (Some (confirmed.NoStores s.uid.num)) None) (first_of_each is_bare ss) ≡ None
        → (first_of_each is_bare ss ≡ None → AllByRecursion (λ t. IsEntryState t.uid t) ss) →
        AllByRecursion (λ t. IsEntryState t.uid t) (s ∷ ss)
    by true is none rest = absurd (cc none)
    by false is none rest = (record { state = all.0; stored = stored (state_entry s).stores is }, rest none)

-- ---- what it comes to

first_none : (a b : Option ConfirmedReply) → either a b ≡ None → a ≡ None
first_none None b none = refl
first_none (Some r) b none = none

rest_none : (a b : Option ConfirmedReply) → either a b ≡ None → b ≡ None
rest_none None b none = none
rest_none (Some r) b none = absurd (cc none)

module _ (p : Path) (top : Uid) (gs : Grants) (ex inc : Marks) (d : Pair) (n : Naming) (is_top : top ≡ top_of p) (xs : List ℕ) (xs_are : xs ≡ wanted top gs ex d) (states : List ObjectState)
    (states_are : states ≡ entries_after top gs ex inc d) (passed : checked p gs ex inc d n ≡ None) where
  is_new : confirm_new p gs ex inc d n (checked p gs ex inc d n) ≡ confirm_entries top states d (lock_all xs p n)
  is_new =
      (λ i. confirm_new p gs ex inc d n (passed i))
      ∙ ((λ i. confirm_entries (sym is_top i) (entries_after (sym is_top i) gs ex inc d) d (lock_all (wanted (sym is_top i) gs ex d) p n))
      ∙ (λ i. confirm_entries top (sym states_are i) d (lock_all (sym xs_are i) p n)))

  -- the locks that are wanted are free
  pub are_free : first_of_each (refused_exclude p n) xs ≡ None
  are_free =
      (λ i. first_of_each (refused_exclude p n) ((xs_are ∙ (λ j. wanted (is_top j) gs ex d)) i))
      ∙ first_none (first_of_each (refused_exclude p n) (wanted (top_of p) gs ex d)) _ (rest_none (first_of_each (other_grant n) gs) _ passed)

  none_bare : first_of_each is_bare states ≡ None
  none_bare =
      (λ i. first_of_each is_bare ((states_are ∙ (λ j. entries_after (is_top j) gs ex inc d)) i))
      ∙ rest_none (first_of_each (is_there d) inc) _ (rest_none (first_of_each (refused_exclude p n) (wanted (top_of p) gs ex d)) _ (rest_none (first_of_each (other_grant n) gs) _ passed))

  pub answered : (after : List Line) (before : List Line) (new : Naming) → states ≡ [] → new ≡ confirms top (lock_all xs p n).part →
      after ≡ before ++ said (lock_all xs p n).outs
      → IsAnswered (confirm_new p gs ex inc d n (checked p gs ex inc d n)) (record {
        part = new;
        before = before;
        lines =
            after;
      }) (Some confirmed.Yes)
  answered after before new empty part lines =
      let e : confirm_new p gs ex inc d n (checked p gs ex inc d n) ≡ confirm_entries top [] d (lock_all xs p n) =
      is_new ∙ (λ i. confirm_entries top (empty i) d (lock_all xs p n)) in
      record {
        part = part ∙ (λ i. (sym e i).part);
        lines = lines ∙ (λ i. before ++ said (sym e i).outs);
        reply = λ i. (sym e i).reply;
        nothing_done = subst (λ r. AreLines r.outs) (sym e) (only_lines xs p n);
      }

  pub ready : (before after : List Line) (new : Naming) → (states ≡ [] → ⊥) → is_prepared top d ≡ false →
      AllByRecursion (λ s. IsNewState s.uid s) states → IsDistinct uid_eq (map (λ (s : ObjectState). s.uid) (entries_after top gs ex inc d)) →
      length gs ≤ 255
      → new ≡ (lock_all xs p n).part → after ≡ before ++ said (lock_all xs p n).outs →
      IsReady (confirm_new p gs ex inc d n (checked p gs ex inc d n)) top d (record { part = new; before = before; lines = after }) states
  ready before after new some first all once few part lines = record {
    outs = (lock_all xs p n).outs;
    only_lines = only_lines xs p n;
    is = is_new ∙ by states some;
    lines = lines;
    first = first;
    states_are = record {
      distinct = subst (λ ss. IsDistinct uid_eq (map (λ (s : ObjectState). s.uid) ss)) (sym states_are) once;
      each =
          all_stored states all none_bare;
    };
    few = let short = few_entries top ex inc d gs in omega (arith, ap length states_are, short, few);
  }
    where
      by : (ss : List ObjectState) → (ss ≡ [] → ⊥) →
          confirm_entries top ss d (lock_all xs p n) ≡ prepared_by top ss (record {
            part = new;
            outs =
                (lock_all xs p n).outs;
          }) (prepare_answer top ss d)
      by [] never = absurd (never refl)
      by (s ∷ ss) some =
          λ i. prepared_by top (s ∷ ss) (record { part = sym part i; outs = (lock_all xs p n).outs }) (prepare_answer top (s ∷ ss) d)

-- one entry more
pub more_entries : (o : Option ObjectState) (ss : List ObjectState) → cons_option o [] ++ ss ≡ cons_option o ss
more_entries None ss = refl
more_entries (Some s) ss = refl

pub not_none : (ss : List ObjectState) → (length ss == 0) ≡ false → ss ≡ [] → ⊥
not_none [] some empty = absurd (cc some)
not_none (s ∷ ss) some empty = absurd (omega (arith, ap length empty))

pub none_left : (ss : List ObjectState) → (length ss == 0) ≡ true → ss ≡ []
none_left [] none = refl
none_left (s ∷ ss) none = absurd (omega (arith, eqb-true (length (s ∷ ss)) 0 none))
