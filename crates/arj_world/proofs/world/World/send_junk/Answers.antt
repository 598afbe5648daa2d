use Rattle.std.proofs.Common.{◌≡◌, ◌∙◌, ◌≤◌, ◌∷◌, [], length, map, sym, subst, ◌++◌, ◌+◌, ap}
use Rattle.std.proofs.lemmas.Result.{on_ok_weaker}
use Rattle.arj_core.specs.Steps.{Sent, message_of}
use Rattle.arj_protocol.specs.Words.frame
use Rattle.arj_protocol.specs.World.{junk, numbered, sent_line}
use Rattle.arj_world.specs.Goes.{GoesTo}
use Rattle.arj_world.specs.Stands.{hand}
use Rattle.arj_world.specs.Wire.{frame_of, put_seen, shown, Put}
use Rattle.arj_world.proofs.Armed.{goes_junk}
use Rattle.arj_world.specs.Tells.{nobody}
use Rattle.arj_world.proofs.Tells.{frame_line, tells_line, tells_none}
use Rattle.arj_world.proofs.world.World.send_junk.Goals as goal
use Rattle.arj_start.specs.Limits.{most_frames}

pub returns-clause-goes : goal.returns-clause-goes
returns-clause-goes g c =
    let n = c.in-Some.ensures in
    let old = hand c.args.self.now c.args.rack.now c.args.journal.now in
    on_ok_weaker c.send.result
    (λ (put : shown c.send.new.self c.send.new.journal ≡ put_seen 0 c.self.inside.wire.event (Sent c.in-Some.n frame.Junk (message_of c.args.bytes) ∷ []) (shown c.self.inside.wire c.args.journal.now)).
    subst (GoesTo g.C.Core g.D.Disk.file (junk c.args.node) old)
    (sym ((λ i. hand (record {
      header = c.self.inside.header;
      cores = c.self.inside.cores.items;
      net = c.send.new.self.net;
      labels =
          c.self.inside.labels.entries;
      given = c.self.inside.given.keys;
      event = c.send.ensures.event i;
      full = c.send.new.self.full;
    }) c.args.rack.now c.send.new.journal)
    ∙ (λ i. hand (record (c.self.view_is i) {
      net = c.send.new.self.net;
      full =
          c.send.new.self.full;
    }) c.args.rack.now c.send.new.journal)))
    (subst (λ m. GoesTo g.C.Core g.D.Disk.file (junk m) old (hand (record c.args.self.now {
      net = c.send.new.self.net;
      full =
          c.send.new.self.full;
    }) c.args.rack.now c.send.new.journal)) n.0
    (goes_junk g.C.Core g.D.Disk.file c.in-Some.n c.args.bytes old c.send.new.self.net c.send.new.journal c.send.new.self.full c.requires.junk (subst (λ k. length k.net ≤ most_frames) c.self.view_is c.self.invariant.3)
    (put ∙ (λ i. put_seen 0 (c.self.view_is i).event (Sent c.in-Some.n frame.Junk (message_of c.args.bytes) ∷ []) (record {
      frames =
          map frame_of (c.self.view_is i).net;
      lines = c.args.journal.now;
      full = (c.self.view_is i).full;
    }))))))
    c.send.ensures.put

pub returns-clause-tells : goal.returns-clause-tells
returns-clause-tells g c =
    let k = length (map frame_of c.self.inside.wire.net) + 1 in
    on_ok_weaker c.send.result
    (λ (put : shown c.send.new.self c.send.new.journal ≡ put_seen 0 c.self.inside.wire.event (Sent c.in-Some.n frame.Junk (message_of c.args.bytes) ∷ []) (shown c.self.inside.wire c.args.journal.now)).
    tells_line g.D.Disk c.args.self.now.header.nodes nobody c.args.rack.now c.args.rack.now c.args.journal.now c.args.journal.now c.send.new.journal (numbered c.self.inside.wire.event (sent_line k 0 c.in-Some.n frame.Junk ++ []))
    (λ m. frame_line m c.self.inside.wire.event k 0 c.in-Some.n frame.Junk) (ap (λ (p : Put). p.lines) put) (tells_none g.D.Disk c.args.self.now.header.nodes nobody c.args.rack.now c.args.journal.now))
    c.send.ensures.put
