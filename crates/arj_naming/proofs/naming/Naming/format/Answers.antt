use Rattle.std.proofs.Common.{◌≡◌, ◌∙◌, ap, length, refl, subst, sym, Some}
use Rattle.std.proofs.Math.Seq.{take-length}
use Rattle.std.specs.List.{AllByRecursion}
use Rattle.arj_disk.specs.declared.slot.Role.TheVariants.{Names}
use Rattle.arj_entry.specs.Entry.{EntryInForm}
use Rattle.arj_journal.specs.declared.header.ObjectLine.{ObjectLine}
use Rattle.arj_naming.proofs.First.{first_found, firsts, header_all, header_distinct, header_few, header_pair, header_rises, header_saves}
use Rattle.arj_naming.proofs.First.{header_sizes, only_pair}
use Rattle.arj_naming.proofs.Gives.{gives_entries}
use Rattle.arj_naming.proofs.Recovered.{each_by_uid}
use Rattle.arj_naming.proofs.Store.{on_err}
use Rattle.arj_protocol.specs.Confirm.{recovered_naming}
use Rattle.arj_protocol.specs.Step.{first_disk}
use Rattle.arj_store.specs.Pair.{HasFirst, HasOnly}
use Rattle.arj_store.specs.declared.answer.Found.{Found}
use Rattle.arj_law_store.specs.store.Files.{IsPairOf}
use Rattle.arj_law_store.specs.store.Found.{by_uid, pair_found}
use Rattle.arj_naming.proofs.naming.Naming.format.Goals as goal

pub first_entries-requires : goal.first_entries-requires
first_entries-requires g c =
    subst (AllByRecursion (λ (o : ObjectLine). EntryInForm (record {
      servers = o.servers;
      stores =
          o.stores;
    }))) (sym c.as_slice.ensures) (header_saves c.args.header.now c.requires.header (firsts c.args.header.now.format c.args.header.now.objects) refl)

pub format-requires-clause-states : goal.format-requires-clause-states
format-requires-clause-states g c =
    header_distinct c.args.header.now c.requires.header c.in_ok-states.states (c.in_ok-states.ensures ∙ ap (firsts c.args.header.now.format) c.as_slice.ensures)

pub format-requires-clause-count : goal.format-requires-clause-count
format-requires-clause-count g c =
    header_few c.args.header.now c.requires.header c.in_ok-states.states (c.in_ok-states.ensures ∙ ap (firsts c.args.header.now.format) c.as_slice.ensures)

pub format-requires-clause-sizes : goal.format-requires-clause-sizes
format-requires-clause-sizes g c =
    header_sizes c.args.header.now c.requires.header c.in_ok-states.states (c.in_ok-states.ensures ∙ ap (firsts c.args.header.now.format) c.as_slice.ensures)

pub recovered-requires : goal.recovered-requires
recovered-requires g c =
    let hd = c.args.header.now in
    let ss = c.in_ok-states.states in
    let are : ss ≡ firsts hd.format hd.objects = c.in_ok-states.ensures ∙ ap (firsts c.args.header.now.format) c.as_slice.ensures in
    let f : Found = record { committed = ss; prepared = c.new.result } in
    first_found f (header_all hd c.requires.header ss are) (header_rises hd c.requires.header ss are) c.new.ensures

-- where memory is wanting before it begins, nothing is there
pub returns-in_err-states-clause-fault : goal.returns-in_err-states-clause-fault
returns-in_err-states-clause-fault g c =
    on_err c.from_residual.result (0, (g.met.O.ObjectStore.blank Names (g.D.Disk.file c.args.disk.now) c.requires.empty).1)

pub returns-in_err-states-clause-formed : goal.returns-in_err-states-clause-formed
returns-in_err-states-clause-formed g c = (g.met.O.ObjectStore.blank Names (g.D.Disk.file c.args.disk.now) c.requires.empty).0

pub returns-in_err-store-clause-fault : goal.returns-in_err-store-clause-fault
returns-in_err-store-clause-fault g c =
    on_err c.from_residual-in_err-store.result (subst (HasFirst (g.O.ObjectStore.pair (g.D.Disk.file c.format.new.disk) Names)) (c.in_ok-states.ensures ∙ ap (firsts c.args.header.now.format) c.as_slice.ensures) c.in_err-store.ensures.fault)

-- all of them are there
pub returns-in_err-memory-clause-fault : goal.returns-in_err-memory-clause-fault
returns-in_err-memory-clause-fault g c =
    let q = g.O.ObjectStore.pair (g.D.Disk.file c.format.new.disk) Names in
    on_err c.from_residual-in_err-memory.result (subst (HasFirst q) (c.in_ok-states.ensures ∙ ap (firsts c.args.header.now.format) c.as_slice.ensures) (length c.in_ok-states.states, subst (HasOnly q) (sym (take-length c.in_ok-states.states)) c.in_ok-store.ensures.pair))

pub returns-clause-stands : goal.returns-clause-stands
returns-clause-stands g c =
    let hd = c.args.header.now in
    let ss = c.in_ok-states.states in
    let are : ss ≡ firsts hd.format hd.objects = c.in_ok-states.ensures ∙ ap (firsts c.args.header.now.format) c.as_slice.ensures in
    let f : Found = record { committed = ss; prepared = c.new.result } in
    let q = g.O.ObjectStore.pair (g.D.Disk.file c.format.new.disk) Names in
    record {
      role_is = c.in_ok-store.ensures.role;
      keeps = c.in_ok-store.ensures.keeps;
      formed = c.in_ok-store.ensures.formed;
      pair = subst (IsPairOf q) (sym c.in_ok-memory.ensures.entries) (only_pair f (header_all hd c.requires.header ss are) (header_rises hd c.requires.header ss are) c.new.ensures q c.in_ok-store.ensures.pair);
    }

pub returns-clause-pair : goal.returns-clause-pair
returns-clause-pair g c =
    let hd = c.args.header.now in
    let ss = c.in_ok-states.states in
    let are : ss ≡ firsts hd.format hd.objects = c.in_ok-states.ensures ∙ ap (firsts c.args.header.now.format) c.as_slice.ensures in
    let f : Found = record { committed = ss; prepared = c.new.result } in
    let pair : pair_found f ≡ (first_disk hd 1).names =
    (λ i. record { held = by_uid ss; pend = c.new.ensures i }) ∙ header_pair hd c.requires.header ss are in
    c.in_ok-memory.ensures.entries ∙ pair

pub returns-clause-part : goal.returns-clause-part
returns-clause-part g c =
    let hd = c.args.header.now in
    let ss = c.in_ok-states.states in
    let are : ss ≡ firsts hd.format hd.objects = c.in_ok-states.ensures ∙ ap (firsts c.args.header.now.format) c.as_slice.ensures in
    let f : Found = record { committed = ss; prepared = c.new.result } in
    let pair : pair_found f ≡ (first_disk hd 1).names =
    (λ i. record { held = by_uid ss; pend = c.new.ensures i }) ∙ header_pair hd c.requires.header ss are in
    ap Some (c.in_ok-memory.ensures.part ∙ ap (recovered_naming 1) pair)

pub returns-clause-entries : goal.returns-clause-entries
returns-clause-entries g c =
    let hd = c.args.header.now in
    let ss = c.in_ok-states.states in
    let are : ss ≡ firsts hd.format hd.objects = c.in_ok-states.ensures ∙ ap (firsts c.args.header.now.format) c.as_slice.ensures in
    let f : Found = record { committed = ss; prepared = c.new.result } in
    let q = g.O.ObjectStore.pair (g.D.Disk.file c.format.new.disk) Names in
    gives_entries q (pair_found f) (only_pair f (header_all hd c.requires.header ss are) (header_rises hd c.requires.header ss are) c.new.ensures q c.in_ok-store.ensures.pair) (record { held = each_by_uid ss (header_all hd c.requires.header ss are); pend = (first_found f (header_all hd c.requires.header ss are) (header_rises hd c.requires.header ss are) c.new.ensures).prepared })
