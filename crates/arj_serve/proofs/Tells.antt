-- The end of an action: what the store, naming and the server do one behind the other is what the protocol's node does.
use Rattle.std.proofs.Common.{◌≡◌, ◌∙◌, ◌++◌, Bool, true, false, ℕ, List, [], refl, sym, ap, subst, Option, Some, None}
use Rattle.std.specs.Prelude.{is_some, option_map, if◌then◌else◌}
use Rattle.std.proofs.lemmas.List.{append-nil, append_assoc}
use Rattle.arj_disk.specs.FileMap.{FileMap}
use Rattle.arj_disk.specs.declared.slot.Role.TheVariants.{Store}
use Rattle.arj_journal.specs.declared.body.Line.{Line}
use Rattle.arj_msg.specs.declared.message.Told.{Told}
use Rattle.arj_naming.specs.Calls.{told_last}
use Rattle.arj_naming.specs.Said.{said}
use Rattle.arj_naming.proofs.Cuts.{said_append}
use Rattle.arj_protocol.specs.Ask.{last_end}
use Rattle.arj_protocol.specs.Effect.{Did, Disk, Effect, Pair, is_prepared, stopped}
use Rattle.arj_protocol.specs.Naming.{Naming}
use Rattle.arj_protocol.specs.Node.{Took, ack_told, end_states, handle_ends, naming_told, store_told}
use Rattle.arj_protocol.specs.Says.{AreAll, is_server_effect}
use Rattle.arj_protocol.specs.Server as server
use Rattle.arj_protocol.specs.Server.{Server}
use Rattle.arj_protocol.specs.Words.{End, Uid}
use Rattle.arj_protocol.specs.Words.ending
use Rattle.arj_protocol.specs.Words.message
use Rattle.arj_serve.specs.Asked.{Handles, HandlesInPart, acked_by, sent_to}
use Rattle.arj_serve.specs.Did.{AreLocal, Call, IsCut, disk_after, outs_of, sends}
use Rattle.arj_serve.specs.Ended.{EndsInPart, EndsNames, EndsNamesInPart, EndsParts, EndsPartsInPart, EndsServer, EndsStates, NamesEnd}
use Rattle.arj_serve.specs.Ended.{names_told, told_effects}
use Rattle.arj_serve.specs.Kept.{IsDiskOf, Kept, Leaves, LeavesNames, LeavesRole, StandsOn, part_of, parts_with}
use Rattle.arj_serve.proofs.Cuts.{after_append, cut_back, cut_front, local_append}
use Rattle.arj_serve.proofs.Places.{place_same}
use Rattle.arj_serve.proofs.Roles.{Stays, only_names, only_store, store_stays}
use Rattle.arj_serve.proofs.Served.{same_said, server_after, server_local}
use Rattle.arj_store.specs.declared.store.ObjectStore.{Ghosts}

-- ---- what is left of the files

module _ {O : Type 0} (o : Ghosts O) (stays : Stays o) (file middle left : FileMap) where
  -- of the store's files and the entries'
  pub leaves_both : (named : Bool) → o.formed middle Store → LeavesRole o Store file middle → LeavesNames o named middle left →
      Leaves o named file left
  leaves_both true formed store names = record {
    formed = ((stays Store middle left (store_stays middle left names.only) formed).0, names.formed);
    others = λ q none tmp. only_names middle left names.only q none tmp ∙ only_store true file middle store.only q none tmp;
  }
  leaves_both false formed store names =
      let same : left ≡ middle = λ i q. names q i in
      subst (λ f. Leaves o false file f) (sym same) (record { formed = store.formed; others = store.only })

-- ---- one behind the other

-- the store's part leaves the entries
names_as_were : (n : ℕ) (act : Uid) (end : End) (d : Disk) → (disk_after (store_told n act end d.store) d).names ≡ d.names
names_as_were n act end d = by (is_prepared act d.store) end
  where
    by : (b : Bool) (e : End) → (disk_after (if b then end_states n act e else []) d).names ≡ d.names
    by true ending.Commit = refl
    by true ending.Abort = refl
    by false e = refl

-- another server stands as well
server_stands : {O : Type 0} (o : Ghosts O) (k : Kept O) (s : Server) (file : FileMap) (d : Disk) → StandsOn o k file d →
    StandsOn o (record k { server = s }) file d
server_stands o k s file d st =
    record { role_is = st.role_is; keeps = st.keeps; formed = st.formed; pair = st.pair; objects = st.objects; naming = st.naming }

-- a stop fell into the store's part
pub store_cut : {O : Type 0} (o : Ghosts O) (m : Told) (act : Uid) (end : End) (call : Call O) → EndsInPart o act end call →
    EndsPartsInPart o m act end call
store_cut o m act end call cut d stands =
    let names = (names_told m d.names (option_map part_of call.old.naming)).outs in
    let ends = (server.told call.old.number m.ends call.old.server).outs in
    let first = store_told call.old.number act end d.store in
    cut_front o call d (first ++ names) ends (cut_front o call d first names (cut d stands))

module _ {O : Type 0} (o : Ghosts O) (m : Told) (act : Uid) (end : End) (old first : Kept O) (memory : first ≡ record old {
  store =
      first.store;
}) (file middle : FileMap) (before said_first : List Line) where
  abbrev by_store : Call O
  by_store = record { old = old; new = first; file = file; left = middle; before = before; after = said_first }

  abbrev of_store : Disk → List Effect
  of_store d = store_told old.number act end d.store

  abbrev of_names : Disk → List Effect
  of_names d = (names_told m d.names (option_map part_of old.naming)).outs

  abbrev of_server : List Effect
  of_server = (server.told old.number m.ends old.server).outs

  same_names : (d : Disk) →
      names_told m (disk_after (of_store d) d).names (option_map part_of first.naming) ≡ names_told m d.names (option_map part_of old.naming)
  same_names d = λ i. names_told m (names_as_were old.number act end d i) (option_map part_of (memory i).naming)

  module _ (left : FileMap) (second : Kept O) (said_second : List Line) (done : EndsStates o act end by_store) where
    abbrev by_names : Call O
    by_names = record { old = first; new = second; file = middle; left = left; before = said_first; after = said_second }

    -- or into naming's
    pub naming_cut : EndsNamesInPart o m by_names →
        EndsPartsInPart o m act end (record { old = old; new = second; file = file; left = left; before = before; after = said_second })
    naming_cut cut d stands =
        let call : Call O = record { old = old; new = second; file = file; left = left; before = before; after = said_second } in
        let one = done d stands in
        let c = cut (disk_after (of_store d) d) one.stands in
        cut_front o call d (of_store d ++ of_names d) of_server (cut_back o call d (of_store d) (of_names d) one.local (record {
          front = c.front;
          work = c.work;
          back = c.back;
          how = c.how;
          are = (λ i. (sym (same_names d) i).outs) ∙ c.are;
          local = c.local;
          lines = c.lines ∙ (λ i. one.lines i ++ said c.front);
          disk = subst (λ b. IsDiskOf o b left (stopped c.how c.work (disk_after c.front (disk_after (of_store d) d)))) (ap (λ (k : Kept O). is_some k.naming) memory) c.disk;
        }))

    pub parts_end : (third : Kept O) (after : List Line) → EndsNames o m by_names → EndsServer m second third said_second after →
        ((n : ℕ) (s : Server) → AreAll (is_server_effect n) (server.told n m.ends s).outs)
        → EndsParts o m act end (record { old = old; new = third; file = file; left = left; before = before; after = after })
    parts_end third after names ends all d stands =
        let one = done d stands in
        let two : NamesEnd o m by_names (disk_after (of_store d) d) = names (disk_after (of_store d) d) one.stands in
        let number : second.number ≡ old.number = two.place.number ∙ ap (λ (k : Kept O). k.number) memory in
        let server_is : second.server ≡ old.server = two.server ∙ ap (λ (k : Kept O). k.server) memory in
        let names_outs : (names_told m (disk_after (of_store d) d).names (option_map part_of first.naming)).outs ≡ of_names d =
        λ i. (same_names d i).outs in
        let is_end : server.told second.number m.ends second.server ≡ server.told old.number m.ends old.server =
        λ i. server.told (number i) m.ends (server_is i) in
        let none = all old.number old.server in
        let on : StandsOn o (record second {
          server =
              (server.told second.number m.ends second.server).part;
        }) left (disk_after (of_names d) (disk_after (of_store d) d)) =
        server_stands o second (server.told second.number m.ends second.server).part left (disk_after (of_names d) (disk_after (of_store d) d)) (subst (λ es. StandsOn o second left (disk_after es (disk_after (of_store d) d))) names_outs two.done.stands) in
        record {
          place = record {
            number = ap (λ (k : Kept O). k.number) ends.part ∙ number;
            named = ap (λ (k : Kept O). is_some k.naming) ends.part ∙ (two.place.named ∙ ap (λ (k : Kept O). is_some k.naming) memory);
          };
          server = ap (λ (k : Kept O). k.server) ends.part ∙ (λ i. (is_end i).part);
          naming = ap (λ (k : Kept O). option_map part_of k.naming) ends.part ∙ (two.part ∙ (λ i. (same_names d i).part));
          done = record {
            local = local_append (of_store d ++ of_names d) of_server (local_append (of_store d) (of_names d) one.local (subst AreLocal names_outs two.done.local)) (server_local old.number of_server none);
            lines = ends.lines ∙ ((λ i. two.done.lines i ++ (same_said (is_end i).outs i)) ∙ lines_are d one.lines names_outs);
            stands = subst (λ k. StandsOn o k left (disk_after (told_effects m act end (record {
              old = old;
              new = third;
              file = file;
              left =
                  left;
              before = before;
              after = after;
            }) d) d)) (sym ends.part)
                (subst (StandsOn o (record second { server = (server.told second.number m.ends second.server).part }) left)
                (sym (after_append (of_store d ++ of_names d) of_server d ∙ (server_after old.number of_server (disk_after (of_store d ++ of_names d) d) none ∙ after_append (of_store d) (of_names d) d))) on);
          };
        }
      where
        lines_are : (d : Disk) → said_first ≡ before ++ said (of_store d) →
            (names_told m (disk_after (of_store d) d).names (option_map part_of first.naming)).outs ≡ of_names d
            → (said_first ++ said (names_told m (disk_after (of_store d) d).names (option_map part_of first.naming)).outs) ++ said of_server ≡ before ++ said (of_store d ++ of_names d ++ of_server)
        lines_are d first_lines names_outs =
            (λ i. (first_lines i ++ said (names_outs i)) ++ said of_server) ∙ ((λ i. append_assoc before (said (of_store d)) (said (of_names d)) i ++ said of_server)
            ∙ ((λ i. (before ++ sym (said_append (of_store d) (of_names d)) i) ++ said of_server) ∙ (append_assoc before (said (of_store d ++ of_names d)) (said of_server)
            ∙ ap (λ ls. before ++ ls) (sym (said_append (of_store d ++ of_names d) of_server)))))

-- ---- the message

module _ {O : Type 0} (o : Ghosts O) (m : Told) (act : Uid) (end : End) (call : Call O) (last : last_end m.ends ≡ Some (act, end)) where
  names_are : (p : Pair) (x : Option Naming) → names_told m p x ≡ naming_told act end p x
  names_are p None = refl
  names_are p (Some n) = λ i. let t = told_last (last i) p n in record { part = Some t.part; outs = t.outs }

  acks : (from : ℕ) → sends (sent_to from (acked_by m act)) ≡ ack_told from act m.ack
  acks from = by m.ack
    where
      by : (b : Bool) → sends (sent_to from (if b then Some (message.Acked (record { act = act })) else None)) ≡ ack_told from act b
      by true = refl
      by false = refl

  -- all parts did what they do, and the acknowledgement is to be sent
  pub told_takes : EndsParts o m act end call → Handles o (message.Told m) call (λ from. sent_to from (acked_by m act))
  told_takes ends d stands from c =
      let p = ends d stands in
      let n = call.old.number in
      record {
        place = p.place;
        done = told_effects m act end call d;
        local = p.done.local;
        is = (λ i. handle_ends n d (parts_with call.old c) from m.ack m.ends (last i))
            ∙ (λ i. Took (record {
              server = sym p.server i;
              naming =
                  (ap (λ (t : Did (Option Naming)). t.part) (sym (names_are d.names (option_map part_of call.old.naming))) ∙ sym p.naming) i;
              coord = c;
            })
            (store_told n act end d.store ++ (sym (names_are d.names (option_map part_of call.old.naming)) i).outs ++ (server.told n m.ends call.old.server).outs ++ sym (acks from) i));
        lines = p.done.lines;
        stands = p.done.stands;
      }

  pub told_stops : EndsPartsInPart o m act end call → HandlesInPart o (message.Told m) call
  told_stops cut d stands from c =
      let n = call.old.number in
      subst (λ es. IsCut o es call d)
      ((λ i. store_told n act end d.store ++ (names_are d.names (option_map part_of call.old.naming) i).outs ++ (server.told n m.ends call.old.server).outs ++ ack_told from act m.ack)
      ∙ (λ i. outs_of (handle_ends n d (parts_with call.old c) from m.ack m.ends (sym last i))))
      (cut_front o call d (told_effects m act end call d) (ack_told from act m.ack) (cut d stands))

-- a message without ends changes nothing
pub told_nothing : {O : Type 0} (o : Ghosts O) (m : Told) (call : Call O) → last_end m.ends ≡ None → call.new ≡ call.old →
    call.left ≡ call.file → call.after ≡ call.before → Handles o (message.Told m) call (λ from. [])
told_nothing o m call none same files lines d stands from c = record {
  place = place_same call same;
  done = [];
  local = tt;
  is = (λ i. handle_ends call.old.number d (parts_with call.old c) from m.ack m.ends (none i)) ∙ (λ i. Took (parts_with (sym same i) c) []);
  lines = lines ∙ sym (append-nil call.before);
  stands = subst (λ k. StandsOn o k call.left d) (sym same) (subst (λ f. StandsOn o call.old f d) (sym files) stands);
}
