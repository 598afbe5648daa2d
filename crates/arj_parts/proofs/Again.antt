-- A restart of a node's parts: what it leaves of the disk, what it says and sends, and where it is cut.
use Rattle.std.proofs.Common.{◌≡◌, ◌==◌, ◌∙◌, ◌+◌, ◌++◌, ◌∷◌, ◌&&◌, ℕ, Bool, true, false, cond, List, [], map, refl, sym, ap, subst, Option}
use Rattle.std.proofs.Common.{Some, None}
use Rattle.std.proofs.lemmas.List.{append-nil, append_assoc}
use Rattle.std.specs.Prelude.{option_map}
use Rattle.arj_base.specs.State.{state_bytes}
use Rattle.arj_disk.specs.FileMap.{FileMap}
use Rattle.arj_disk.specs.Says.{OnlyOfRole, SameOfRole, inc}
use Rattle.arj_disk.specs.declared.slot.Role.TheVariants.{Store, Names}
use Rattle.arj_disk.specs.declared.slot.Slot.TheVariants.{Incarnation, Intent}
use Rattle.arj_intent.proofs.Done.{has_kept}
use Rattle.arj_intent.specs.Records.{AreRecords, IsTheList}
use Rattle.arj_journal.specs.declared.body.Line.{Line}
use Rattle.arj_naming.proofs.Cuts.{said_append}
use Rattle.arj_naming.specs.Files.{GivesEntries}
use Rattle.arj_naming.specs.Kept as naming
use Rattle.arj_naming.specs.Said.{said}
use Rattle.arj_node.specs.Acting.{outs_again, parts_again}
use Rattle.arj_node.specs.Handing.{Does}
use Rattle.arj_node.specs.Outgoing.{IsHalted, Tells, effects_of, loud}
use Rattle.arj_node.specs.Ran.{disk_after}
use Rattle.arj_node.specs.declared.outgoing.Outgoing.{Outgoing}
use Rattle.arj_parts.proofs.Performed.{loud_both}
use Rattle.arj_parts.proofs.Rests.{has_still, in_form_same, inc_same}
use Rattle.arj_parts.proofs.Servings.{says_loud}
use Rattle.arj_parts.proofs.StateWorks.{first_and_rest, front_all}
use Rattle.arj_parts.specs.Begun.{HasNaming, StopsBack, outs_back, raised}
use Rattle.arj_parts.specs.Kept.{Kept, RestsOn, StandsOn, has_naming}
use Rattle.arj_parts.specs.Said.{says_of}
use Rattle.arj_protocol.proofs.PartSays.{all_both, all_flat}
use Rattle.arj_protocol.specs.Confirm.{recovered_lines, recovered_naming}
use Rattle.arj_protocol.specs.Coord.{Coord, new_coord}
use Rattle.arj_protocol.specs.Effect as effect
use Rattle.arj_protocol.specs.Effect.{Disk, Effect, Pair, Say, Send, Do, Work, Look, PutInc, Prepare, Commit, Abort, PutIntent}
use Rattle.arj_protocol.specs.Effect.{RemoveIntent, Stop, Before, After, InPart, held_at, stopped, worked}
use Rattle.arj_protocol.specs.Naming.{Naming}
use Rattle.arj_protocol.specs.Node.{prepared_actions, query_about}
use Rattle.arj_protocol.specs.Order.{at_uid, uid_set, without_number}
use Rattle.arj_protocol.specs.Says.{AreAll}
use Rattle.arj_protocol.specs.Server.{new_server}
use Rattle.arj_protocol.specs.Step.{hello_to, naming_at, naming_back, numbers_to, recovered_records, tolds_again}
use Rattle.arj_protocol.specs.Words.{Header, Message, Uid}
use Rattle.arj_protocol.specs.Words.body
use Rattle.arj_recover.specs.Done as recover
use Rattle.arj_recover.specs.Done.{IsCutOf, Written, begins_again, begins_on, sent_again}
use Rattle.arj_recover.specs.OnDisk.{IsDiskOf, IsFormed, IsWorked}
use Rattle.arj_serve.proofs.Roles.{KeepsOn, Stays, gives_same, store_stays}
use Rattle.arj_serve.specs.Did.{AreLocal}
use Rattle.arj_serve.specs.Kept.{NamesOn}
use Rattle.arj_serve.specs.Objects.{AreObjects}
use Rattle.arj_store.specs.Pair as files
use Rattle.arj_store.specs.Pair.{packed}
use Rattle.arj_store.specs.declared.store.ObjectStore.{Ghosts}
use Rattle.arj_law_store.specs.store.Files.{IsPairOf}
use Rattle.arj_law_store.proofs.store.Pairs.{one_pair, pair_same}

-- ---- effects by what they are

-- lines, reads, and a new incarnation
abbrev is_start : Effect → Bool
is_start (Say b) = true
is_start (Do Look) = true
is_start (Do (PutInc i)) = true
is_start _ = false

-- lines and reads
abbrev is_reading : Effect → Bool
is_reading (Say b) = true
is_reading (Do Look) = true
is_reading _ = false

-- messages
abbrev is_sent : Effect → Bool
is_sent (Send to m) = true
is_sent _ = false

all_map : {A : Type 0} (test : Effect → Bool) (f : A → Effect) (xs : List A) → ((x : A) → test (f x) ≡ true) → AreAll test (map f xs)
all_map test f [] each = refl
all_map test f (x ∷ xs) each = let rest = all_map test f xs each in λ i. each x i && rest i

module _ (test : Effect → Bool) where
  -- effects without messages
  local_of : ((to : ℕ) (m : Message) → test (Send to m) ≡ true → ⊥) → (es : List Effect) → AreAll test es → AreLocal es
  local_of never [] all = tt
  local_of never (Say b ∷ es) all = local_of never es (first_and_rest test (Say b) es all).1
  local_of never (Send to m ∷ es) all = absurd (never to m (first_and_rest test (Send to m) es all).0)
  local_of never (Do w ∷ es) all = local_of never es (first_and_rest test (Do w) es all).1

  -- effects that leave the disk
  leaves_disk : ((w : Work) (d : Disk) → test (Do w) ≡ true → worked w d ≡ d) → (es : List Effect) (d : Disk) → AreAll test es →
      disk_after es d ≡ d
  leaves_disk same [] d all = refl
  leaves_disk same (Say b ∷ es) d all = leaves_disk same es d (first_and_rest test (Say b) es all).1
  leaves_disk same (Send to m ∷ es) d all = leaves_disk same es d (first_and_rest test (Send to m) es all).1
  leaves_disk same (Do w ∷ es) d all =
      let own = first_and_rest test (Do w) es all in ap (disk_after es) (same w d own.0) ∙ leaves_disk same es d own.1

reading_same : (w : Work) (d : Disk) → is_reading (Do w) ≡ true → worked w d ≡ d
reading_same Look d own = refl
reading_same (PutInc i) d own = absurd (cc own)
reading_same (Prepare r act states) d own = absurd (cc own)
reading_same (Commit r act) d own = absurd (cc own)
reading_same (Abort r act) d own = absurd (cc own)
reading_same (PutIntent top i) d own = absurd (cc own)
reading_same (RemoveIntent top) d own = absurd (cc own)

after_reading : (es : List Effect) (d : Disk) → AreAll is_reading es → disk_after es d ≡ d
after_reading = leaves_disk is_reading reading_same

after_sent : (es : List Effect) (d : Disk) → AreAll is_sent es → disk_after es d ≡ d
after_sent = leaves_disk is_sent (λ w d own. absurd (cc own))

after_both : (es fs : List Effect) (d : Disk) → disk_after (es ++ fs) d ≡ disk_after fs (disk_after es d)
after_both [] fs d = refl
after_both (Say b ∷ es) fs d = after_both es fs d
after_both (Send to m ∷ es) fs d = after_both es fs d
after_both (Do w ∷ es) fs d = after_both es fs (worked w d)

pub same_said : (es : List Effect) → recover.said es ≡ said es
same_said [] = refl
same_said (Say b ∷ es) = ap (λ ls. record { event = 0; body = b } ∷ ls) (same_said es)
same_said (Send to m ∷ es) = same_said es
same_said (Do w ∷ es) = same_said es

same_after : (es : List Effect) (d : Disk) → recover.disk_after es d ≡ disk_after es d
same_after [] d = refl
same_after (Say b ∷ es) d = same_after es d
same_after (Send to m ∷ es) d = same_after es d
same_after (Do w ∷ es) d = same_after es (worked w d)

-- ---- a beginning leaves both pairs

record SamePairs (d e : Disk) : Type 0 where
  store : e.store ≡ d.store
  names : e.names ≡ d.names

start_worked : (w : Work) (d : Disk) → is_start (Do w) ≡ true → SamePairs d (worked w d)
start_worked Look d own = record { store = refl; names = refl }
start_worked (PutInc i) d own = record { store = refl; names = refl }
start_worked (Prepare r act states) d own = absurd (cc own)
start_worked (Commit r act) d own = absurd (cc own)
start_worked (Abort r act) d own = absurd (cc own)
start_worked (PutIntent top i) d own = absurd (cc own)
start_worked (RemoveIntent top) d own = absurd (cc own)

start_stopped : (how : Stop) (w : Work) (d : Disk) → is_start (Do w) ≡ true → SamePairs d (stopped how w d)
start_stopped Before w d own = record { store = refl; names = refl }
start_stopped After w d own = start_worked w d own
start_stopped (InPart which) Look d own = record { store = refl; names = refl }
start_stopped (InPart which) (PutInc i) d own = record { store = refl; names = refl }
start_stopped (InPart which) (Prepare r act states) d own = absurd (cc own)
start_stopped (InPart which) (Commit r act) d own = absurd (cc own)
start_stopped (InPart which) (Abort r act) d own = absurd (cc own)
start_stopped (InPart which) (PutIntent top i) d own = absurd (cc own)
start_stopped (InPart which) (RemoveIntent top) d own = absurd (cc own)

then_same : (a b c : Disk) → SamePairs a b → SamePairs b c → SamePairs a c
then_same a b c first second = record { store = second.store ∙ first.store; names = second.names ∙ first.names }

start_after : (es : List Effect) (d : Disk) → AreAll is_start es → SamePairs d (recover.disk_after es d)
start_after [] d all = record { store = refl; names = refl }
start_after (Say b ∷ es) d all = start_after es d (first_and_rest is_start (Say b) es all).1
start_after (Send to m ∷ es) d all = start_after es d (first_and_rest is_start (Send to m) es all).1
start_after (Do w ∷ es) d all =
    let own = first_and_rest is_start (Do w) es all in
    then_same d (worked w d) (recover.disk_after es (worked w d)) (start_worked w d own.0) (start_after es (worked w d) own.1)

-- ---- a restart's effects

abbrev naming_lines : ℕ → Disk → List Effect
naming_lines n d = naming_back (naming_at n (d.inc + 1) d.names)

abbrev records_read : ℕ → Disk → List Effect
records_read n d = Do Look ∷ recovered_records n d.intents

back_reads : (o : Option Naming) → AreAll is_reading (naming_back o)
back_reads None = refl
back_reads (Some o) = all_flat is_reading _ o.objects (λ e. all_map is_reading _ e.1.rows (λ r. refl))

rest_reads : (n : ℕ) (d : Disk) → AreAll is_reading (naming_lines n d ++ records_read n d)
rest_reads n d =
    all_both is_reading (naming_lines n d) (records_read n d) (back_reads (naming_at n (d.inc + 1) d.names)) (all_map is_reading _ d.intents (λ e. refl))

all_sent : (hd : Header) (n k : ℕ) (d : Disk) → AreAll is_sent (sent_again hd n k d)
all_sent hd n k d =
    let asks = map query_about (uid_set (prepared_actions d.store ++ prepared_actions d.names)) in
    let hellos = map (hello_to n k) (without_number n (numbers_to hd.nodes)) in
    all_both is_sent (tolds_again d.intents) (asks ++ hellos) (all_flat is_sent _ d.intents (λ e. all_map is_sent _ e.1.nodes (λ m. refl)))
    (all_both is_sent asks hellos (all_map is_sent query_about (uid_set (prepared_actions d.store ++ prepared_actions d.names)) (λ u. refl)) (all_map is_sent (hello_to n k) (without_number n (numbers_to hd.nodes)) (λ m. refl)))

reads_local : (es : List Effect) → AreAll is_reading es → AreLocal es
reads_local = local_of is_reading (λ to m own. cc own)

outs_local : (n : ℕ) (d : Disk) → AreLocal (outs_back n d)
outs_local n d = reads_local (naming_lines n d ++ records_read n d) (rest_reads n d)

outs_raise : (n : ℕ) (d : Disk) → disk_after (outs_back n d) d ≡ raised d
outs_raise n d = after_reading (naming_lines n d ++ records_read n d) (raised d) (rest_reads n d)

in_order : (hd : Header) (n : ℕ) (d : Disk) → outs_again hd n d ≡ outs_back n d ++ sent_again hd n (d.inc + 1) d
in_order hd n d =
    let front = (begins_on n d ++ naming_lines n d) ++ records_read n d in
    let tolds = tolds_again d.intents in
    let asks = map query_about (uid_set (prepared_actions d.store ++ prepared_actions d.names)) in
    let hellos = map (hello_to n (d.inc + 1)) (without_number n (numbers_to hd.nodes)) in
    append_assoc (front ++ tolds) asks hellos ∙ append_assoc front tolds (asks ++ hellos)

-- ---- resting on what a restart leaves

module _ {O : Type 0} (o : Ghosts O) (n : ℕ) (old new : FileMap) (d e : Disk) (rests : RestsOn o n old d) (formed : IsFormed o new) (are : IsDiskOf o new e) (same : SamePairs d e) where
  same_files : files.SamePair (o.pair old Names) (o.pair new Names)
  same_files = record {
    committed = λ u. (are.names.held u ∙ ap (λ (p : Pair). option_map state_bytes (held_at u p)) same.names) ∙ sym (rests.disk.names.held u);
    prepared = λ a. (are.names.pend a ∙ ap (λ (p : Pair). option_map packed (at_uid a p.pend)) same.names) ∙ sym (rests.disk.names.pend a);
  }

  -- the pairs are as before
  rests_on : RestsOn o n new e
  rests_on = record {
    formed = formed;
    disk = are;
    objects = subst AreObjects (sym same.store) rests.objects;
    names = by (has_naming n) rests.names;
  }
    where
      by : (b : Bool) → NamesOn b o old d.names → NamesOn b o new e.names
      by true on = (are.names, gives_same (o.pair old Names) (o.pair new Names) same_files on.1)
      by false on = ap (λ (p : Pair). p.pend) same.names ∙ on

-- naming was recovered
module _ {O : Type 0} (o : Ghosts O) (stays : Stays o) (mid new : FileMap) (only : OnlyOfRole Names mid new) (same : files.SamePair (o.pair mid Names) (o.pair new Names)) (named : o.formed new Names) (formed : IsFormed o mid) where
  start_same : new Incarnation ≡ mid Incarnation
  start_same = only Incarnation (λ e. cc e) (λ e. cc e)

  store_same : o.formed new Store × files.SamePair (o.pair mid Store) (o.pair new Store)
  store_same = stays Store mid new (store_stays mid new only) formed.store

  formed_on : IsFormed o new
  formed_on = record {
    store = store_same.0;
    names = named;
    incarnation = has_still mid new start_same formed.incarnation;
    intents = in_form_same mid new (λ u. only (Intent u) (λ e. cc e) (λ e. cc e)) formed.intents;
  }

  disk_on : (e : Disk) → IsDiskOf o mid e → IsDiskOf o new e
  disk_on e are = record {
    inc = are.inc ∙ sym (inc_same mid new start_same);
    store = pair_same (o.pair mid Store) (o.pair new Store) e.store store_same.1 are.store;
    names = pair_same (o.pair mid Names) (o.pair new Names) e.names same are.names;
    intents = has_kept mid new e.intents (λ u. only (Intent u) (λ e. cc e) (λ e. cc e)) are.intents;
  }

-- ---- a restart

-- `one` is what it leaves of the files once the store is recovered
module _ {O : Type 0} (o : Ghosts O) (n : ℕ) (old one : FileMap) (d : Disk) (rests : RestsOn o n old d) (formed : IsFormed o one) where
  -- it was cut until then
  pub stops_begin : (before after : List Line) → IsCutOf o (begins_on n) old one before after →
      StopsBack o n one d (record { before = before; after = after })
  stops_begin before after cuts =
      let cut = cuts d rests.disk in
      let all = front_all is_start cut.front cut.work cut.back (subst (AreAll is_start) cut.are refl) in
      let same = then_same d (recover.disk_after cut.front d) (stopped cut.how cut.work (recover.disk_after cut.front d)) (start_after cut.front d all.0) (start_stopped cut.how cut.work (recover.disk_after cut.front d) all.1) in
      record {
        front = cut.front;
        stop = record {
          work = cut.work;
          back = cut.back ++ (naming_lines n d ++ records_read n d);
          how = cut.how;
          are = ap (λ es. es ++ (naming_lines n d ++ records_read n d)) cut.are ∙ append_assoc cut.front (Do cut.work ∷ cut.back) (naming_lines n d ++ records_read n d);
          disk = subst (λ e. RestsOn o n one (stopped cut.how cut.work e)) (same_after cut.front d) (rests_on o n old one d (stopped cut.how cut.work (recover.disk_after cut.front d)) rests formed cut.disk same);
        };
        local = local_of is_start (λ to m own. cc own) cut.front all.0;
        lines = cut.lines ∙ ap (λ ls. before ++ ls) (same_said cut.front);
      }

  module _ (works : IsWorked o (PutInc (inc old + 1)) old one) (k : ℕ) (is : k ≡ inc old + 1) where
    next : d.inc + 1 ≡ k
    next = ap (λ i. i + 1) rests.disk.inc ∙ sym is

    says_one : IsDiskOf o one (raised d)
    says_one = subst (λ i. IsDiskOf o one (record d { inc = i + 1 })) (sym rests.disk.inc) (works d rests.disk)

    pub rests_one : RestsOn o n one (raised d)
    rests_one = rests_on o n old one d (raised d) rests formed says_one (record { store = refl; names = refl })

    begun_lines : (before after : List Line) → after ≡ before ++ recover.said (begins_again n (inc old + 1)) →
        after ≡ before ++ said (begins_on n d)
    begun_lines before after are = are ∙ ap (λ i. before ++ record { event = 0; body = body.Up n (i + 1) } ∷ []) (sym rests.disk.inc)

    -- `two` is what naming leaves of them
    module _ (stays : Stays o) (two : FileMap) (only : OnlyOfRole Names one two) (same : files.SamePair (o.pair one Names) (o.pair two Names)) (named : o.formed two Names) where
      formed_two : IsFormed o two
      formed_two = formed_on o stays one two only same named formed

      pub rests_two : RestsOn o n two (raised d)
      rests_two = rests_on o n one two (raised d) (raised d) rests_one formed_two (disk_on o stays one two only same named formed (raised d) says_one) (record { store = refl; names = refl })

      pub form_two : (u : Uid) → two (Intent u) ≡ one (Intent u)
      form_two u = only (Intent u) (λ e. cc e) (λ e. cc e)

      -- it was cut at naming
      pub stops_named : (before mid after : List Line) → mid ≡ before ++ recover.said (begins_again n (inc old + 1)) → after ≡ mid →
          StopsBack o n two d (record { before = before; after = after })
      stops_named before mid after begun none = record {
        front = Do Look ∷ Do (PutInc (d.inc + 1)) ∷ Say (body.Up n (d.inc + 1)) ∷ [];
        stop = record { work = Look; back = naming_lines n d ++ records_read n d; how = Before; are = refl; disk = rests_two };
        local = tt;
        lines = none ∙ begun_lines before mid begun;
      }

      -- it was cut at the records
      pub stops_records : (before mid behind after : List Line) → mid ≡ before ++ recover.said (begins_again n (inc old + 1)) →
          behind ≡ mid ++ said (naming_back (naming_at n k d.names)) → after ≡ behind →
          StopsBack o n two d (record { before = before; after = after })
      stops_records before mid behind after begun found none = record {
        front = begins_on n d ++ naming_lines n d;
        stop = record {
          work = Look;
          back = recovered_records n d.intents;
          how = Before;
          are = refl;
          disk = subst (RestsOn o n two) (sym (after_reading (naming_lines n d) (raised d) (back_reads (naming_at n (d.inc + 1) d.names)))) rests_two;
        };
        local = reads_local (naming_lines n d) (back_reads (naming_at n (d.inc + 1) d.names));
        lines = none ∙ named_lines before mid behind begun found;
      }
        where
          named_lines : (before mid behind : List Line) → mid ≡ before ++ recover.said (begins_again n (inc old + 1)) →
              behind ≡ mid ++ said (naming_back (naming_at n k d.names)) → behind ≡ before ++ said (begins_on n d ++ naming_lines n d)
          named_lines before mid behind begun found =
              found ∙ ((λ i. begun_lines before mid begun i ++ said (naming_back (naming_at n (sym next i) d.names))) ∙ append_assoc before (said (begins_on n d)) (said (naming_lines n d)))

      -- it went through
      pub back_lines : (before mid behind after : List Line) → mid ≡ before ++ recover.said (begins_again n (inc old + 1)) →
          behind ≡ mid ++ said (naming_back (naming_at n k d.names)) → after ≡ behind ++ said (recovered_records n d.intents)
          → after ≡ before ++ said (outs_back n d)
      back_lines before mid behind after begun found records =
          records ∙ (ap (λ ls. ls ++ said (recovered_records n d.intents)) (found ∙ (λ i. begun_lines before mid begun i ++ said (naming_back (naming_at n (sym next i) d.names))))
          ∙ (append_assoc (before ++ said (begins_on n d)) (said (naming_lines n d)) (said (recovered_records n d.intents))
          ∙ (append_assoc before (said (begins_on n d)) (said (naming_lines n d) ++ said (recovered_records n d.intents))
          ∙ ap (λ ls. before ++ (said (begins_on n d) ++ ls)) (sym (said_append (naming_lines n d) (records_read n d))))))

      module _ (keeps_on : KeepsOn o) (store : O) (of : o.own_role store ≡ Store) (keeps : o.keeps store one) (found : Option (naming.Kept O)) (has : HasNaming o n k found two d.names) where
        abbrev pub parts_back : Coord → List (Uid × effect.Intent) → Kept O
        parts_back c records =
            record { services = record { number = n; server = new_server k; naming = found; store = store }; coord = c; records = records }

        pub back_stands : (c : Coord) (records : List (Uid × effect.Intent)) → c ≡ record (new_coord n k) { telling = d.intents } →
            records ≡ d.intents → StandsOn o n (parts_back c records) two (record { disk = raised d; parts = parts_again n d })
        back_stands c records coord_is records_are = record {
          rests = rests_two;
          services = record {
            role_is = of;
            keeps = keeps_on store one two (subst (λ r. SameOfRole r one two) (sym of) (store_stays one two only)) keeps;
            formed = formed_two.store;
            pair = rests_two.disk.store;
            objects = rests.objects;
            naming = has.stands;
          };
          number = refl;
          named = has.named;
          records = records_are;
          parts = (λ i. record {
            server = new_server (next i);
            naming = naming_at n (next i) d.names;
            coord =
                record (new_coord n (next i)) { telling = d.intents };
          })
              ∙ (λ i. record { server = new_server k; naming = sym has.part i; coord = sym coord_is i });
        }

-- the files give entries, where the node has naming
pub gives_one : {O : Type 0} (o : Ghosts O) (n : ℕ) (file : FileMap) (e : Disk) → RestsOn o n file e → has_naming n ≡ true →
    GivesEntries (o.pair file Names)
gives_one o n file e rests is = (subst (λ b. NamesOn b o file e.names) is rests.names).1

-- a list of all records is the one that the files have
pub the_records : (file : FileMap) (entries all : List (Uid × effect.Intent)) → IsTheList file entries → AreRecords file all → all ≡ entries
the_records file entries all only are =
    only (record { inc = 0; store = record { held = []; pend = [] }; names = record { held = []; pend = [] }; intents = all }) are

-- ---- naming of a restart

-- node 1 has naming
module _ {O : Type 0} (o : Ghosts O) (n inc : ℕ) (old new : FileMap) (k : naming.Kept O) (is : (n == 1) ≡ true) (stands : naming.StandsOn o k new) (part : k.part ≡ recovered_naming inc k.pair) (same : files.SamePair (o.pair old Names) (o.pair new Names)) (p : Pair) (are : IsPairOf (o.pair old Names) p) where
  names_are : k.pair ≡ p
  names_are = one_pair (o.pair new Names) k.pair p stands.pair (pair_same (o.pair old Names) (o.pair new Names) p same are)

  part_is : Some k.part ≡ naming_at n inc p
  part_is = ap Some (part ∙ ap (recovered_naming inc) names_are) ∙ (λ i. cond (sym is i) (Some (recovered_naming inc p)) None)

  pub found_named : GivesEntries (o.pair new Names) → HasNaming o n inc (Some k) new p
  found_named gives = record { stands = (stands, names_are, gives); named = sym is; part = part_is }

  pub found_lines : (before after : List Line) → after ≡ before ++ said (recovered_lines k.part) →
      after ≡ before ++ said (naming_back (naming_at n inc p))
  found_lines before after are = are ∙ ap (λ found. before ++ said (naming_back found)) part_is

-- no other does
module _ {O : Type 0} (o : Ghosts O) (n inc : ℕ) (file : FileMap) (is : (n == 1) ≡ false) (p : Pair) where
  none_is : None ≡ naming_at n inc p
  none_is = λ i. cond (sym is i) (Some (recovered_naming inc p)) None

  pub found_unnamed : NamesOn (has_naming n) o file p → HasNaming o n inc None file p
  found_unnamed on = record { stands = subst (λ b. NamesOn b o file p) is on; named = sym is; part = none_is }

  pub unnamed_lines : (lines : List Line) → lines ≡ lines ++ said (naming_back (naming_at n inc p))
  unnamed_lines lines = sym (append-nil lines) ∙ ap (λ found. lines ++ said (naming_back found)) none_is

-- ---- sent last

loud_sent : (es : List Effect) → AreAll is_sent es → loud es ≡ es
loud_sent [] all = refl
loud_sent (Say b ∷ es) all = let never = (first_and_rest is_sent (Say b) es all).0 in absurd (cc never)
loud_sent (Send to m ∷ es) all = ap (λ xs. Send to m ∷ xs) (loud_sent es (first_and_rest is_sent (Send to m) es all).1)
loud_sent (Do w ∷ es) all = let never = (first_and_rest is_sent (Do w) es all).0 in absurd (cc never)

-- what is sent, one kind behind the other
module _ (hd : Header) (n k : ℕ) (d : Disk) (tolds : List Effect) (asked us : List Uid) (m : ℕ) (a b c e : List Outgoing) where
  abbrev asks : List Effect
  asks = map query_about (uid_set (prepared_actions d.store ++ prepared_actions d.names))

  abbrev hellos_to : ℕ → List Effect
  hellos_to nodes = map (hello_to n k) (without_number n (numbers_to nodes))

  pub all_tell : tolds ≡ tolds_again d.intents → us ≡ uid_set (prepared_actions d.store ++ prepared_actions d.names) → asked ≡ us →
      hd.nodes ≡ m → Tells tolds a b → effects_of c ≡ effects_of b ++ map query_about asked → effects_of e ≡ effects_of c ++ hellos_to m
      → Tells (sent_again hd n k d) a e
  all_tell tolds_are us_are asked_are nodes told queried greeted =
      greeted ∙ ((λ i. (queried ∙ (λ j. (told ∙ loud_tolds) j ++ map query_about ((asked_are ∙ us_are) j))) i ++ hellos_to (sym nodes i))
      ∙ (append_assoc (effects_of a ++ tolds_again d.intents) asks (hellos_to hd.nodes)
      ∙ (append_assoc (effects_of a) (tolds_again d.intents) (asks ++ hellos_to hd.nodes)
      ∙ ap (λ es. effects_of a ++ es) (sym (loud_sent (sent_again hd n k d) (all_sent hd n k d))))))
    where
      loud_tolds : effects_of a ++ loud tolds ≡ effects_of a ++ tolds_again d.intents
      loud_tolds = ap (λ es. effects_of a ++ es) (ap loud tolds_are ∙ loud_sent (tolds_again d.intents) (all_flat is_sent _ d.intents (λ e. all_map is_sent _ e.1.nodes (λ m. refl))))

-- ---- handed back

module _ {O : Type 0} (o : Ghosts O) (hd : Header) (n : ℕ) (d : Disk) (before mid after : List Outgoing) (none lines : List Line) (nothing : none ≡ []) (told : effects_of mid ≡ effects_of before ++ says_of lines) where
  -- what was said is handed back
  said_tells : (es : List Effect) → AreLocal es → lines ≡ none ++ said es → Tells es before mid
  said_tells es local are =
      told ∙ ap (λ xs. effects_of before ++ xs) (ap says_of (are ∙ ap (λ xs. xs ++ said es) nothing) ∙ says_loud es local)

  pub restart_halts : (file : FileMap) → StopsBack o n file d (record { before = none; after = lines }) →
      IsHalted (RestsOn o n file) (outs_again hd n d) d before mid
  restart_halts file stops = record {
    front = stops.front;
    stop = record {
      work = stops.stop.work;
      back = stops.stop.back ++ sent_again hd n (d.inc + 1) d;
      how = stops.stop.how;
      are = in_order hd n d ∙ (ap (λ es. es ++ sent_again hd n (d.inc + 1) d) stops.stop.are ∙ append_assoc stops.front (Do stops.stop.work ∷ stops.stop.back) (sent_again hd n (d.inc + 1) d));
      disk = stops.stop.disk;
    };
    tells = said_tells stops.front stops.local stops.lines;
  }

  pub restart_does : (p : Kept O) (file : FileMap) (k : ℕ) → k ≡ d.inc + 1 →
      StandsOn o n p file (record { disk = raised d; parts = parts_again n d }) → lines ≡ none ++ said (outs_back n d) →
      Tells (sent_again hd n k (raised d)) mid after
      → Does (StandsOn o n p file) (parts_again n d) (outs_again hd n d) d before after
  restart_does p file k is stands are sent = record {
    stands = subst (λ e. StandsOn o n p file (record { disk = e; parts = parts_again n d })) (sym disk_is) stands;
    tells = sent ∙ (ap (λ xs. xs ++ loud (sent_again hd n k d)) (said_tells (outs_back n d) (outs_local n d) are)
        ∙ (append_assoc (effects_of before) (loud (outs_back n d)) (loud (sent_again hd n k d))
        ∙ ap (λ xs. effects_of before ++ xs) ((λ i. loud (outs_back n d) ++ loud (sent_again hd n (is i) d)) ∙ (sym (loud_both (outs_back n d) (sent_again hd n (d.inc + 1) d)) ∙ ap loud (sym (in_order hd n d))))));
  }
    where
      disk_is : disk_after (outs_again hd n d) d ≡ raised d
      disk_is = ap (λ es. disk_after es d) (in_order hd n d) ∙ (after_both (outs_back n d) (sent_again hd n (d.inc + 1) d) d
          ∙ (ap (disk_after (sent_again hd n (d.inc + 1) d)) (outs_raise n d) ∙ after_sent (sent_again hd n (d.inc + 1) d) (raised d) (all_sent hd n (d.inc + 1) d)))
