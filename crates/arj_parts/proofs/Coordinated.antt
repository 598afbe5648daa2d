-- What the coordinator did, done on the records and the disk, is what the node's parts did.
use Rattle.std.proofs.Common.{◌∙◌, List, sym, ap, subst, ℕ}
use Rattle.arj_disk.specs.FileMap.{FileMap}
use Rattle.arj_intent.specs.Records.{AreInForm}
use Rattle.arj_node.specs.Handing as node
use Rattle.arj_node.specs.Outgoing.{IsHalted}
use Rattle.arj_node.specs.declared.outgoing.Outgoing.{Outgoing}
use Rattle.arj_parts.specs.Kept.{Kept, RestsOn, StandsOn}
use Rattle.arj_parts.specs.Records.{CutsRecords, DoesRecords, OnlyRecords, records_after, records_stopped}
use Rattle.arj_parts.proofs.RecordWorks.{after_records, cut_records, rests_with, services_with}
use Rattle.arj_protocol.specs.Coord.{Coord}
use Rattle.arj_protocol.specs.Effect.{Disk, Effect, Intent}
use Rattle.arj_protocol.specs.Node.{Here, Parts, with_coord}
use Rattle.arj_protocol.specs.Says.{AreAll, is_coord_effect}
use Rattle.arj_protocol.specs.Words.{Uid}
use Rattle.arj_serve.proofs.Roles.{KeepsOn, Stays}
use Rattle.arj_store.specs.declared.store.ObjectStore.{Ghosts}

module _ {O : Type 0} (o : Ghosts O) (keeps_on : KeepsOn o) (stays : Stays o) (n : ℕ) (p : Kept O) (old new : FileMap) (h : Here) (stands : StandsOn o n p old h) (only : OnlyRecords old new) (form : AreInForm new) where
  -- all of it was done
  pub coord_does : (c : Coord) (es : List Effect) (records : List (Uid × Intent)) (before after : List Outgoing) →
      AreAll is_coord_effect es → DoesRecords es old new p.records records before after
      → node.Does (StandsOn o n (record {
        services = p.services;
        coord = c;
        records =
            records;
      }) new) (with_coord h.parts c) es h.disk before after
  coord_does c es records before after all does = record {
    stands = subst (λ (d : Disk). StandsOn o n (record { services = p.services; coord = c; records = records }) new (record {
      disk =
          d;
      parts = with_coord h.parts c;
    })) (sym (after_records es h.disk all)) (record {
      rests = rests_with o keeps_on stays old new only n h.disk (records_after es h.disk.intents) form (does.disk h.disk.intents stands.rests.disk.intents) stands.rests;
      services = services_with o keeps_on stays old new only p.services h.disk (records_after es h.disk.intents) stands.services;
      number = stands.number;
      named = stands.named;
      records = does.memory ∙ ap (records_after es) stands.records;
      parts = ap (λ (t : Parts). with_coord t c) stands.parts;
    });
    tells = does.tells;
  }

  -- a stop cut it
  pub coord_halts : (es : List Effect) (before after : List Outgoing) → AreAll is_coord_effect es → CutsRecords es old new before after →
      IsHalted (RestsOn o n new) es h.disk before after
  coord_halts es before after all cut = record {
    front = cut.front;
    stop = record {
      work = cut.work;
      back = cut.back;
      how = cut.how;
      are = cut.are;
      disk = subst (RestsOn o n new) (sym (cut_records cut.front cut.work cut.back cut.how h.disk (subst (AreAll is_coord_effect) cut.are all)))
          (rests_with o keeps_on stays old new only n h.disk (records_stopped cut.how cut.work (records_after cut.front h.disk.intents)) form (cut.disk h.disk.intents stands.rests.disk.intents) stands.rests);
    };
    tells = cut.tells;
  }
