-- The parts of a node that is formatted stand on its first disk.
use Rattle.std.proofs.Common.{◌≡◌, ◌==◌, ◌∙◌, ℕ, Bool, true, false, cond, List, [], ◌∷◌, map, filter, refl, sym, ap, subst, Option, Some}
use Rattle.std.proofs.Common.{None, arith}
use Rattle.std.proofs.lemmas.Bool.Decides.{nat_tests}
use Rattle.std.specs.List.{AllByRecursion, IsDistinct}
use Rattle.arj_base.specs.declared.state.Format.{Format}
use Rattle.arj_class.specs.Forms.{FormatHolds}
use Rattle.arj_disk.specs.FileMap.{FileMap}
use Rattle.arj_disk.specs.Says.{OnlyOfRole, SameOfRole, slot_role}
use Rattle.arj_disk.specs.declared.slot.Role.{Role}
use Rattle.arj_disk.specs.declared.slot.Role.TheVariants.{Store, Names}
use Rattle.arj_disk.specs.declared.slot.Slot.{Slot}
use Rattle.arj_disk.specs.declared.slot.Slot.TheVariants.{Intent}
use Rattle.arj_journal.specs.ScriptForm.{HeaderInForm, ObjectLineInForm}
use Rattle.arj_msg.proofs.StateLaws.{state_payload}
use Rattle.arj_msg.specs.State.{Restores}
use Rattle.arj_naming.specs.Files.{GivesEntries}
use Rattle.arj_naming.specs.Kept as naming
use Rattle.arj_node.specs.Acting.{first_here}
use Rattle.arj_parts.specs.Begun.{HasNaming}
use Rattle.arj_parts.specs.Kept.{Kept, StandsOn, has_naming}
use Rattle.arj_protocol.specs.Confirm.{recovered_naming}
use Rattle.arj_protocol.specs.Coord.{new_coord}
use Rattle.arj_protocol.specs.Effect.{Pair}
use Rattle.arj_protocol.specs.Order.{has, put_uid}
use Rattle.arj_protocol.specs.Server.{new_server}
use Rattle.arj_protocol.specs.Step.{first_disk, first_entry, first_state, naming_at, pair_with, put_states}
use Rattle.arj_protocol.specs.Words.{Header, ObjectLine, ObjectState, Uid}
use Rattle.arj_recover.proofs.FirstPair.{first_pair}
use Rattle.arj_recover.specs.OnDisk.{IsFirst, IsFormed, states_at}
use Rattle.arj_serve.specs.Kept.{NamesOn}
use Rattle.arj_serve.specs.Objects.{AreObjects, IsObjectState}
use Rattle.arj_serve.proofs.Roles.{KeepsOn, Stays, naming_goes_on, names_stay, store_stays, gives_same}
use Rattle.arj_store.specs.Pair as files
use Rattle.arj_store.specs.declared.store.ObjectStore.{Ghosts}
use Rattle.arj_law_store.specs.store.Files.{IsPairOf}
use Rattle.arj_law_store.proofs.store.Held.{all_put}
use Rattle.arj_law_store.proofs.store.Pairs.{pair_same}
use Rattle.arj_text.proofs.Values.{value_in_form}

-- ---- the first states are of objects

module _ (f : Format) (k : ℕ) (o : ObjectLine) (form : ObjectLineInForm k o) (held : FormatHolds f o.value) where
  saved : Restores (first_state f o).format (first_state f o).class (first_state f o).payload
  saved = (o.value, refl, value_in_form o.value form.value, held, refl)

  pub first_is : IsObjectState (first_state f o).uid (first_state f o)
  first_is = record {
    own = refl;
    number = form.number;
    of = refl;
    in_form = ((omega arith, omega arith, omega (arith, form.number.1)), omega arith, (omega arith, omega arith, omega arith), omega (arith, state_payload (first_state f o) saved));
    restores = saved;
  }

firsts_are : (f : Format) (n k : ℕ) (os : List ObjectLine) → AllByRecursion (ObjectLineInForm k) os →
    AllByRecursion (λ (o : ObjectLine). FormatHolds f o.value) os →
    AllByRecursion (λ (s : ObjectState). IsObjectState s.uid s) (map (first_state f) (filter (λ (o : ObjectLine). has o.stores n) os))
firsts_are f n k [] form held = tt
firsts_are f n k (o ∷ os) form held = by (has o.stores n) (firsts_are f n k os form.1 held.1)
  where
    rest : List ObjectLine
    rest = filter (λ (o : ObjectLine). has o.stores n) os

    by : (b : Bool) → AllByRecursion (λ (s : ObjectState). IsObjectState s.uid s) (map (first_state f) rest) →
        AllByRecursion (λ (s : ObjectState). IsObjectState s.uid s) (map (first_state f) (cond b (o ∷ rest) rest))
    by true more = (first_is f k o form.0 held.0, more)
    by false more = more

put_all : (ss : List ObjectState) (held : List (Uid × ObjectState)) → AllByRecursion (λ (s : ObjectState). IsObjectState s.uid s) ss →
    AllByRecursion (λ (e : Uid × ObjectState). IsObjectState e.0 e.1) held
    → AllByRecursion (λ (e : Uid × ObjectState). IsObjectState e.0 e.1) (put_states ss held)
put_all [] held all good = good
put_all (s ∷ ss) held all good = put_all ss (put_uid s.uid s held) all.1 (all_put IsObjectState s.uid s held good all.0)

pub first_objects : (n : ℕ) (hd : Header) → HeaderInForm hd → AreObjects (pair_with (states_at n hd))
first_objects n hd form = record { held = put_all (states_at n hd) [] (firsts_are hd.format n hd.nodes hd.objects form.objects.0 form.held) tt; pend = tt }

-- ---- standing on the first disk

-- `start` is empty, the first states of the store stand on `one`, entries on `two`, and `three` has the first incarnation too
module _ {O : Type 0} (o : Ghosts O) (keeps_on : KeepsOn o) (stays : Stays o) (start one two three : FileMap) (n : ℕ) (hd : Header) (empty : (slot : Slot) → start slot ≡ None) (only_one : OnlyOfRole Store start one) (only_two : OnlyOfRole Names one two) where
  pub names_empty : (q : Slot) → slot_role q ≡ Some Names → one q ≡ None
  names_empty q is = names_stay start one only_one q is ∙ empty q

  pub records_empty : (u : Uid) → two (Intent u) ≡ None
  records_empty u = only_two (Intent u) (λ e. cc) (λ e. cc) ∙ (only_one (Intent u) (λ e. cc) (λ e. cc) ∙ empty (Intent u))

  -- the store's pair is as it was when entries were put
  abbrev stored : Pair
  stored = pair_with (states_at n hd)

  pub store_formed : o.formed one Store → o.formed two Store
  store_formed formed = (stays Store one two (store_stays one two only_two) formed).0

  module _ (formed_one : o.formed one Store) (are : IsPairOf (o.pair one Store) stored) (store : O) (of : o.own_role store ≡ Store) (keeps : o.keeps store one) (found : Option (naming.Kept O)) where
    store_pair : IsPairOf (o.pair two Store) stored
    store_pair = pair_same (o.pair one Store) (o.pair two Store) stored (stays Store one two (store_stays one two only_two) formed_one).1 are

    abbrev pub first_parts : Kept O
    first_parts =
        record { services = record { number = n; server = new_server 1; naming = found; store = store }; coord = new_coord n 1; records = [] }

    pub first_stands : HeaderInForm hd → HasNaming o n 1 found two (first_disk hd n).names →
        IsPairOf (o.pair two Names) (first_disk hd n).names → NamesOn (has_naming n) o two (first_disk hd n).names → o.formed two Names
        → IsFormed o three → IsFirst o two three → ((r : Role) → SameOfRole r two three) → StandsOn o n first_parts three (first_here hd n)
    first_stands form has named on formed_two formed first same = record {
      rests = record {
        formed = formed;
        disk = first stored (first_disk hd n).names store_pair named;
        objects = first_objects n hd form;
        names = still (has_naming n) on;
      };
      services = record {
        role_is = of;
        keeps = keeps_on store two three (subst (λ r. SameOfRole r two three) (sym of) (same Store)) (keeps_on store one two (subst (λ r. SameOfRole r one two) (sym of) (store_stays one two only_two)) keeps);
        formed = formed.store;
        pair = (first stored (first_disk hd n).names store_pair named).store;
        objects = first_objects n hd form;
        naming = naming_goes_on o keeps_on stays two three found (first_disk hd n).names (same Names) has.stands;
      };
      number = refl;
      named = has.named;
      records = refl;
      parts = λ i. record { server = new_server 1; naming = sym has.part i; coord = new_coord n 1 };
    }
      where
        still : (b : Bool) → NamesOn b o two (first_disk hd n).names → NamesOn b o three (first_disk hd n).names
        still true on =
            ((first stored (first_disk hd n).names store_pair named).names, gives_same (o.pair two Names) (o.pair three Names) (stays Names two three (same Names) formed_two).1 on.1)
        still false on = on

-- ---- naming of the first disk

-- a store without states gives the pair without entries
pub no_entries : (q : files.Pair) → files.HasOnly q [] → IsPairOf q (pair_with [])
unfolding IsDistinct
no_entries q only = first_pair [] tt q tt only

-- node 1 has naming
module _ {O : Type 0} (o : Ghosts O) (hd : Header) (n : ℕ) (file : FileMap) (k : naming.Kept O) (is : (n == 1) ≡ true) (stands : naming.StandsOn o k file) (pair : k.pair ≡ (first_disk hd 1).names) (part : Some k.part ≡ naming_at 1 1 (first_disk hd 1).names) (gives : GivesEntries (o.pair file Names)) where
  one : n ≡ 1
  one = grind (arith, nat_tests, is)

  abbrev names : Pair
  names = (first_disk hd n).names

  names_are : k.pair ≡ names
  names_are = pair ∙ ap (λ m. (first_disk hd m).names) (sym one)

  pub first_named : HasNaming o n 1 (Some k) file names
  first_named =
      record {
        stands = (stands, names_are, gives);
        named = sym is;
        part =
            part ∙ (λ i. naming_at (sym one i) 1 (first_disk hd (sym one i)).names);
      }

  pub first_pair_on : IsPairOf (o.pair file Names) names
  first_pair_on = subst (IsPairOf (o.pair file Names)) names_are stands.pair

  pub first_names_on : NamesOn (has_naming n) o file names
  first_names_on = subst (λ b. NamesOn b o file names) (sym is) (first_pair_on, gives)

-- no other does
module _ {O : Type 0} (o : Ghosts O) (hd : Header) (n : ℕ) (file : FileMap) (is : (n == 1) ≡ false) where
  abbrev no_names : Pair
  no_names = (first_disk hd n).names

  pub first_unnamed : HasNaming o n 1 None file no_names
  first_unnamed = record { stands = refl; named = sym is; part = λ i. cond (sym is i) (Some (recovered_naming 1 no_names)) None }

  pub unnamed_pair_on : files.HasOnly (o.pair file Names) [] → IsPairOf (o.pair file Names) no_names
  unnamed_pair_on only =
      subst (IsPairOf (o.pair file Names)) (λ i. pair_with (cond (sym is i) (map (first_entry hd.format) hd.objects) [])) (no_entries (o.pair file Names) only)

  pub unnamed_names_on : NamesOn (has_naming n) o file no_names
  unnamed_names_on = subst (λ b. NamesOn b o file no_names) (sym is) refl

-- ---- as the calls have it

pub none_distinct : files.AreDistinct Names []
unfolding IsDistinct
none_distinct = record { distinct = tt; own = tt }

pub is_one : (n : ℕ) → n ≡ 1 → (n == 1) ≡ true
is_one n is = ap (λ m. m == 1) is

pub not_one : (n : ℕ) → (n ≡ 1 → ⊥) → (n == 1) ≡ false
not_one n isnt = by (n == 1) refl
  where
    by : (b : Bool) → (n == 1) ≡ b → b ≡ false
    by true is = absurd (isnt (grind (arith, nat_tests, is)))
    by false is = refl
