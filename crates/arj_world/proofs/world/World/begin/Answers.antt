use Rattle.std.proofs.Common.{◌≡◌, ◌∙◌, ◌≤◌, sym, subst}
use Rattle.std.proofs.lemmas.Result.{on_ok_weaker}
use Rattle.std.specs.BTreeMap.{insert_entry}
use Rattle.arj_protocol.specs.Words.{label_cmp}
use Rattle.arj_protocol.specs.World.{Giving, begins}
use Rattle.arj_world.specs.Goes.{GoesTo, StepsTo}
use Rattle.arj_world.specs.Stands.{hand}
use Rattle.arj_world.proofs.Begins.{asks_begin, goes_begun, goes_refused, goes_unasked}
use Rattle.arj_world.specs.Tells.{nobody}
use Rattle.arj_world.proofs.Tells.{tells_none}
use Rattle.arj_world.proofs.world.World.begin.Goals as goal

pub returns-in_default-clause-goes : goal.returns-in_default-clause-goes
returns-in_default-clause-goes g c =
    let it : Giving = record { label = c.args.label; kind = c.args.kind; parent = c.args.parent; node = c.args.node } in
    let old = hand c.args.self.now c.args.rack.now c.args.journal.now in
    on_ok_weaker c.give_label.result
    (λ (given : c.give_label.new.self ≡ record c.args.self.now {
      labels =
          insert_entry label_cmp c.args.self.now.labels c.args.label (record { node = c.args.node; serial = c.is_serial-serial.result });
    }).
    subst (λ s. GoesTo g.C.Core g.D.Disk.file (begins it) old (hand s c.args.rack.now c.args.journal.now))
    (sym (given ∙ (λ i. record c.args.self.now {
      labels =
          insert_entry label_cmp c.args.self.now.labels c.args.label (record { node = c.args.node; serial = c.is_serial-serial.ensures i });
    })))
    (goes_unasked g.C.Core g.D.Disk.file it old (λ low high. c.in_default.ensures (subst (λ m. 1 ≤ m) (sym c.from.ensures) low) (subst (λ m. m ≤ c.args.self.now.header.nodes) (sym c.from.ensures) high))))
    c.give_label.ensures.given

pub returns-then-not-ends_begun-clause-goes : goal.returns-then-not-ends_begun-clause-goes
returns-then-not-ends_begun-clause-goes g c =
    let it : Giving = record { label = c.args.label; kind = c.args.kind; parent = c.args.parent; node = c.args.node } in
    let n = c.in-Some.ensures in
    let same : c.in-Some.n ≡ c.args.node = n.0 ∙ c.from.ensures in
    let old = hand c.args.self.now c.args.rack.now c.args.journal.now in
    let mid = hand c.step_core.new.self c.step_core.new.rack c.step_core.new.journal in
    goes_refused g.C.Core g.D.Disk.file it old mid (subst (λ m. 1 ≤ m) same n.1) (subst (λ m. m ≤ c.args.self.now.header.nodes) same n.2)
    (subst (λ m. StepsTo g.C.Core g.D.Disk.file m (asks_begin it) old mid) same c.in_ok-step_core.ensures.steps) (sym c.if-not-ends_begun.ensures)

pub returns-clause-goes : goal.returns-clause-goes
returns-clause-goes g c =
    let it : Giving = record { label = c.args.label; kind = c.args.kind; parent = c.args.parent; node = c.args.node } in
    let n = c.in-Some.ensures in
    let same : c.in-Some.n ≡ c.args.node = n.0 ∙ c.from.ensures in
    let old = hand c.args.self.now c.args.rack.now c.args.journal.now in
    let mid = hand c.step_core.new.self c.step_core.new.rack c.step_core.new.journal in
    on_ok_weaker c.give_label-2.result
    (λ (given : c.give_label-2.new.self ≡ record c.step_core.new.self {
      labels =
          insert_entry label_cmp c.step_core.new.self.labels c.args.label (record {
            node = c.args.node;
            serial =
                c.is_serial-serial.result;
          });
    }).
    subst (λ s. GoesTo g.C.Core g.D.Disk.file (begins it) old (hand s c.step_core.new.rack c.step_core.new.journal))
    (sym (given ∙ (λ i. record c.step_core.new.self {
      labels =
          insert_entry label_cmp c.step_core.new.self.labels c.args.label (record {
            node = c.args.node;
            serial =
                c.is_serial-serial.ensures i;
          });
    })))
    (goes_begun g.C.Core g.D.Disk.file it old mid (subst (λ m. 1 ≤ m) same n.1) (subst (λ m. m ≤ c.args.self.now.header.nodes) same n.2) c.in_ok-step_core.ensures.header
    (subst (λ m. StepsTo g.C.Core g.D.Disk.file m (asks_begin it) old mid) same c.in_ok-step_core.ensures.steps) (sym c.if-not-ends_begun.ensures)))
    c.give_label-2.ensures.given

pub returns-in_default-clause-tells : goal.returns-in_default-clause-tells
returns-in_default-clause-tells g c =
    on_ok_weaker c.give_label.result (λ given. tells_none g.D.Disk c.args.self.now.header.nodes nobody c.args.rack.now c.args.journal.now) c.give_label.ensures.given

pub returns-then-not-ends_begun-clause-tells : goal.returns-then-not-ends_begun-clause-tells
returns-then-not-ends_begun-clause-tells g c = c.in_ok-step_core.ensures.tells

pub returns-clause-tells : goal.returns-clause-tells
returns-clause-tells g c = on_ok_weaker c.give_label-2.result (λ given. c.in_ok-step_core.ensures.tells) c.give_label-2.ensures.given
