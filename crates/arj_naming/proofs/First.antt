-- The entries of a header's objects, as a store puts them on a new disk.
use Rattle.std.proofs.Common.{◌≡◌, ◌≤◌, ◌<◌, ◌+◌, ◌==◌, ◌&&◌, ◌∙◌, ℕ, Bool, true, false, not, List, [], ◌∷◌, ◌++◌, nat_le, nat_lt, map}
use Rattle.std.proofs.Common.{length, refl, sym, ap, subst, Some, arith}
use Rattle.std.specs.Prelude.{IsSome}
use Rattle.std.specs.List.{AllByRecursion, IsDistinct, list_all, list_any}
use Rattle.std.specs.List.Sorted.{IsStrictlySortedBy}
use Rattle.std.specs.Map.{keys_of}
use Rattle.std.specs.Cmp.{nat_cmp_is}
use Rattle.std.specs.declared.cmp.Ordering.TheVariants.{Less}
use Rattle.std.proofs.lemmas.Bool.{and_parts}
use Rattle.std.proofs.lemmas.Bool.Decides.{nat_tests}
use Rattle.std.proofs.lemmas.List.{append-nil, length-append}
use Rattle.std.proofs.lemmas.Map.Keys.{IsDistinct-from_sorted}
use Rattle.arj_base.specs.Order.{uid_order}
use Rattle.arj_base.specs.State.{state_bytes, StateInForm}
use Rattle.arj_base.specs.declared.state.Format.{Format}
use Rattle.arj_base.proofs.Uids.{uid_sym}
use Rattle.arj_entry.specs.Entry.{EntryInForm}
use Rattle.arj_disk.specs.declared.slot.Role.TheVariants.{Names}
use Rattle.arj_journal.specs.ScriptForm.{HeaderInForm, ObjectLineInForm, are_by_number}
use Rattle.arj_journal.specs.declared.header.Header.{Header}
use Rattle.arj_journal.specs.declared.limits.TheConstants.{SERVERS, STORES}
use Rattle.arj_journal.specs.declared.header.ObjectLine.{ObjectLine}
use Rattle.arj_msg.specs.InForm.{IsNode}
use Rattle.arj_naming.specs.Entries.{AreNodes, AreOfEntries, IsEntryState, IsOnce}
use Rattle.arj_naming.specs.Found.{AreFound}
use Rattle.arj_naming.proofs.Appended.{entry_goes}
use Rattle.arj_naming.proofs.Known.{all_names, all_small}
use Rattle.arj_naming.proofs.Nodes.{few_nodes}
use Rattle.arj_protocol.proofs.Payloads.{entry_back}
use Rattle.arj_protocol.specs.Order.{put_uid}
use Rattle.arj_protocol.specs.Step.{first_disk, first_entry, pair_with, put_states}
use Rattle.arj_protocol.specs.Values.{state_entry}
use Rattle.arj_protocol.specs.Words.{Uid, ObjectState, Entry, entry, entry_payload, uid_eq, is_listed}
use Rattle.arj_store.specs.Pair as files
use Rattle.arj_store.specs.Pair.{packed, uid_of}
use Rattle.arj_store.specs.declared.answer.Found.{Found}
use Rattle.arj_law_store.specs.store.Files.{IsPairOf}
use Rattle.arj_law_store.specs.store.Found.{by_uid, pair_found}
use Rattle.arj_law_store.proofs.store.Keys.{tied_is, total}
use Rattle.arj_law_store.proofs.store.Finds.{keys_by_uid, pair_of_found}
use Rattle.arj_text.specs.Fields.{NodesInForm, is_distinct}

-- ---- one entry

each_node : (n : ℕ) (ns : List ℕ) → n ≤ 16 → list_all (λ m. nat_le 1 m && nat_le m n) ns ≡ true → AllByRecursion IsNode ns
each_node n [] most all = tt
each_node n (m ∷ ms) most all =
    let p = and_parts (nat_le 1 m && nat_le m n) (list_all (λ k. nat_le 1 k && nat_le k n) ms) all in
    let q = and_parts (nat_le 1 m) (nat_le m n) p.0 in
    let low : 1 ≤ m = grind (arith, nat_tests, q.0) in
    let high : m ≤ n = grind (arith, nat_tests, q.1) in
    ((low, omega (arith, high, most)), each_node n ms most p.1)

each_once : (ns : List ℕ) → is_distinct ns ≡ true → IsOnce ns
each_once [] once = tt
each_once (n ∷ ns) once =
    let p = and_parts (not (list_any (λ m. m == n) ns)) (is_distinct ns) once in
    (turned (is_listed n ns) p.0, each_once ns p.1)
  where
    turned : (b : Bool) → not b ≡ true → b ≡ false
    turned true never = absurd (cc never)
    turned false is = refl

record AreSomeNodes (ns : List ℕ) : Type 0 where
  some : 1 ≤ length ns
  are : AreNodes ns

some_nodes : (n most : ℕ) (ns : List ℕ) → n ≤ 16 → NodesInForm n most ns → AreSomeNodes ns
some_nodes n most ns few form =
    let p = and_parts (nat_le 1 (length ns) && nat_le (length ns) most) (list_all (λ m. nat_le 1 m && nat_le m n) ns && is_distinct ns) form in
    let q = and_parts (nat_le 1 (length ns)) (nat_le (length ns) most) p.0 in
    let r = and_parts (list_all (λ m. nat_le 1 m && nat_le m n) ns) (is_distinct ns) p.1 in
    let one : 1 ≤ length ns = grind (arith, nat_tests, q.0) in
    record { some = one; are = record { each = each_node n ns few r.0; once = each_once ns r.1 } }

-- the entry of an object line that is in form is one that naming can have
module _ (n : ℕ) (few : n ≤ 16) (o : ObjectLine) (form : ObjectLineInForm n o) where
  abbrev own : Entry
  own = record { servers = o.servers; stores = o.stores }

  back : (f : Format) → state_entry (first_entry f o) ≡ own
  back f = entry_back own

  servers_are : AreSomeNodes o.servers
  servers_are = some_nodes n SERVERS o.servers few form.servers

  stores_are : AreSomeNodes o.stores
  stores_are = some_nodes n STORES o.stores few form.stores

  pub saves : EntryInForm own
  saves = record { servers = few_nodes o.servers servers_are.are; stores = few_nodes o.stores stores_are.are }

  short : length (entry_payload own) < 65536
  short = omega (arith, length-append (length o.servers ∷ o.servers) (length o.stores ∷ o.stores), saves.servers, saves.stores)

  number_fits : o.x < 18446744073709551616
  number_fits = omega (arith, form.number.1)

  pub first_is : (f : Format) → IsEntryState (entry o.x) (first_entry f o)
  first_is f = record {
    state = record {
      own = refl;
      object = form.number;
      of = refl;
      in_form = ((omega arith, omega arith, number_fits), omega arith, (omega arith, omega arith, omega arith), short);
      class_is = refl;
      restores = ap entry_payload (sym (back f));
      served = subst (λ (e : Entry). 1 ≤ length e.servers) (sym (back f)) servers_are.some;
      servers = subst (λ (e : Entry). AreNodes e.servers) (sym (back f)) servers_are.are;
      stores = subst (λ (e : Entry). AreNodes e.stores) (sym (back f)) stores_are.are;
    };
    stored = subst (λ (e : Entry). 1 ≤ length e.stores) (sym (back f)) stores_are.some;
  }

-- ---- all of them

abbrev pub firsts : Format → List ObjectLine → List ObjectState
firsts f os = map (first_entry f) os

pub firsts_are : (f : Format) (n : ℕ) → n ≤ 16 → (os : List ObjectLine) → AllByRecursion (ObjectLineInForm n) os →
    AllByRecursion (λ s. IsEntryState s.uid s) (firsts f os)
firsts_are f n few [] all = tt
firsts_are f n few (o ∷ os) all = (first_is n few o all.0 f, firsts_are f n few os all.1)

pub all_save : (n : ℕ) → n ≤ 16 → (os : List ObjectLine) → AllByRecursion (ObjectLineInForm n) os →
    AllByRecursion (λ (o : ObjectLine). EntryInForm (record { servers = o.servers; stores = o.stores })) os
all_save n few [] all = tt
all_save n few (o ∷ os) all = (saves n few o all.0, all_save n few os all.1)

-- ---- by Uid

before : (x y : ℕ) → nat_lt x y ≡ true → uid_order (entry x) (entry y) ≡ Less
before x y less = let is : x < y = grind (arith, nat_tests, less) in sym (nat_cmp_is x y Less is)

sooner : (x y z : ℕ) → nat_lt x y ≡ true → nat_lt y z ≡ true → nat_lt x z ≡ true
sooner x y z a b = grind (arith, nat_tests, a, b)

below_all : (f : Format) (x : ℕ) (o : ObjectLine) (os : List ObjectLine) → nat_lt x o.x ≡ true → are_by_number (o ∷ os) ≡ true →
    AllByRecursion (λ w. uid_order (entry x) w ≡ Less) (map uid_of (firsts f (o ∷ os)))
below_all f x o [] less ordered = (before x o.x less, tt)
below_all f x o (p ∷ ps) less ordered =
    let q = and_parts (nat_lt o.x p.x) (are_by_number (p ∷ ps)) ordered in
    (before x o.x less, below_all f x p ps (sooner x o.x p.x less q.0) q.1)

pub firsts_rise : (f : Format) (os : List ObjectLine) → are_by_number os ≡ true → IsStrictlySortedBy uid_order (map uid_of (firsts f os))
unfolding IsStrictlySortedBy
firsts_rise f [] ordered = tt
firsts_rise f (o ∷ []) ordered = (tt, tt)
firsts_rise f (o ∷ p ∷ os) ordered =
    let q = and_parts (nat_lt o.x p.x) (are_by_number (p ∷ os)) ordered in
    (below_all f o.x p os q.0 q.1, firsts_rise f (p ∷ os) q.1)

-- objects by number, of which the first is no lower than this, are as few as the numbers from there on
count_from : (f : Format) (n low : ℕ) (o : ObjectLine) (os : List ObjectLine) → low ≤ o.x → AllByRecursion (ObjectLineInForm n) (o ∷ os) →
    are_by_number (o ∷ os) ≡ true → low + length (firsts f (o ∷ os)) ≤ 257
count_from f n low o [] least all ordered = omega (arith, least, all.0.number.1)
count_from f n low o (p ∷ ps) least all ordered =
    let q = and_parts (nat_lt o.x p.x) (are_by_number (p ∷ ps)) ordered in
    let next : o.x + 1 ≤ p.x = grind (arith, nat_tests, q.0) in
    omega (arith, least, count_from f n (o.x + 1) p ps next all.1 q.1)

pub firsts_few : (f : Format) (n : ℕ) (os : List ObjectLine) → AllByRecursion (ObjectLineInForm n) os → are_by_number os ≡ true →
    length (firsts f os) ≤ 256
firsts_few f n [] all ordered = omega arith
firsts_few f n (o ∷ os) all ordered = omega (arith, count_from f n 1 o os all.0.number.0 all ordered)

pub rising_once : (ss : List ObjectState) → IsStrictlySortedBy uid_order (map uid_of ss) → IsDistinct uid_eq (map uid_of ss)
rising_once ss rises =
    subst (λ eq. IsDistinct eq (map uid_of ss)) (λ i u w. (tied_is u w ∙ uid_sym w u) i) (IsDistinct-from_sorted uid_order (map uid_of ss) rises)

-- states that stand by Uid are put in their order
put_all : (held : List (Uid × ObjectState)) (ss : List ObjectState) → IsStrictlySortedBy uid_order (keys_of (held ++ by_uid ss)) →
    put_states ss held ≡ held ++ by_uid ss
put_all held [] rises = sym (append-nil held)
put_all held (s ∷ ss) rises =
    let goes : put_uid s.uid s held ++ by_uid ss ≡ held ++ by_uid (s ∷ ss) =
    entry_goes uid_order total held s.uid s (by_uid (s ∷ ss)) (by_uid ss) (held ++ by_uid (s ∷ ss)) refl refl rises in
    put_all (put_uid s.uid s held) ss (subst (λ w. IsStrictlySortedBy uid_order (keys_of w)) (sym goes) rises) ∙ goes

pub pair_firsts : (ss : List ObjectState) → IsStrictlySortedBy uid_order (map uid_of ss) →
    pair_with ss ≡ record { held = by_uid ss; pend = [] }
pair_firsts ss rises = λ i. record { held = put_all [] ss (subst (IsStrictlySortedBy uid_order) (sym (keys_by_uid ss)) rises) i; pend = [] }

-- ---- found as if a recovery had found them

nothing_rises : IsStrictlySortedBy uid_order []
unfolding IsStrictlySortedBy
nothing_rises = tt

module _ (f : Found) (all : AllByRecursion (λ s. IsEntryState s.uid s) f.committed) (rises : IsStrictlySortedBy uid_order (map uid_of f.committed)) (none : f.prepared ≡ []) where
  pub first_found : AreFound f
  first_found = record {
    committed = all;
    by_uid = rises;
    prepared = subst (AllByRecursion (λ (e : Uid × List ObjectState). AreOfEntries e.1)) (sym none) tt;
    by_action = subst (λ (es : List (Uid × List ObjectState)). IsStrictlySortedBy uid_order (map (λ (e : Uid × List ObjectState). e.0) es)) (sym none) nothing_rises;
  }

  module _ (p : files.Pair) (only : files.HasOnly p f.committed) where
    each_held : (ss : List ObjectState) → AllByRecursion (λ (s : ObjectState). p.held s.uid ≡ Some (state_bytes s)) ss →
        AllByRecursion (λ s. IsEntryState s.uid s) ss → AllByRecursion (λ (s : ObjectState). files.IsHeld p s.uid s) ss
    each_held [] there are = tt
    each_held (s ∷ ss) there are = (record { bytes = there.0; in_form = are.0.state.in_form; own = refl }, each_held ss there.1 are.1)

    pub only_pair : IsPairOf p (pair_found f)
    only_pair = pair_of_found p f (record {
      committed = each_held f.committed only.each all;
      every_committed = only.others;
      by_uid = rises;
      prepared = subst (AllByRecursion (λ (e : Uid × List ObjectState). (p.pend e.0 ≡ Some (packed e.1)) × AllByRecursion StateInForm e.1)) (sym none) tt;
      every_prepared = λ a is. absurd (cc (subst IsSome (only.none a) is));
      by_action = first_found.by_action;
    })

-- ---- the entries of a header

module _ (hd : Header) (form : HeaderInForm hd) (ss : List ObjectState) (are : ss ≡ firsts hd.format hd.objects) where
  pub header_saves : AllByRecursion (λ (o : ObjectLine). EntryInForm (record { servers = o.servers; stores = o.stores })) hd.objects
  header_saves = all_save hd.nodes form.nodes.1 hd.objects form.objects.0

  pub header_all : AllByRecursion (λ s. IsEntryState s.uid s) ss
  header_all = subst (AllByRecursion (λ (s : ObjectState). IsEntryState s.uid s)) (sym are) (firsts_are hd.format hd.nodes form.nodes.1 hd.objects form.objects.0)

  pub header_rises : IsStrictlySortedBy uid_order (map uid_of ss)
  header_rises = subst (λ ts. IsStrictlySortedBy uid_order (map uid_of ts)) (sym are) (firsts_rise hd.format hd.objects form.objects.1)

  pub header_few : length ss ≤ 65535
  header_few = omega (arith, ap length are, firsts_few hd.format hd.nodes hd.objects form.objects.0 form.objects.1)

  pub header_distinct : files.AreDistinct Names ss
  header_distinct = record { distinct = rising_once ss header_rises; own = all_names ss header_all }

  pub header_sizes : AllByRecursion (λ s. length (state_bytes s) ≤ 65535) ss
  header_sizes = all_small ss header_all

  pub header_pair : record { held = by_uid ss; pend = [] } ≡ (first_disk hd 1).names
  header_pair = sym (pair_firsts ss header_rises) ∙ ap pair_with are
