-- What a coordinator did, with its effects done, is what the node's parts did.
use Rattle.std.proofs.Common.{◌≡◌, ◌++◌, ◌∙◌, List, [], sym, ap, subst, Option, ℕ}
use Rattle.arj_disk.specs.FileMap.{FileMap}
use Rattle.arj_intent.specs.Records.{AreInForm}
use Rattle.arj_journal.specs.declared.header.Header.{Header}
use Rattle.arj_node.specs.Acting.{asked_of, why_at}
use Rattle.arj_node.specs.Handing as node
use Rattle.arj_node.specs.Outgoing.{IsHalted}
use Rattle.arj_node.specs.declared.act.Act.{Act}
use Rattle.arj_node.specs.declared.outgoing.Outgoing.{Outgoing}
use Rattle.arj_parts.specs.Kept.{Kept, RestsOn, StandsOn}
use Rattle.arj_parts.specs.Named.{IsAfter}
use Rattle.arj_parts.specs.Records.{CutsRecords, DoesRecords, OnlyRecords}
use Rattle.arj_parts.proofs.Coordinated.{coord_does, coord_halts}
use Rattle.arj_protocol.specs.Coord.{Coord}
use Rattle.arj_protocol.specs.Effect.{Did, Effect, Intent}
use Rattle.arj_protocol.specs.Node.{Here, Parts, with_coord}
use Rattle.arj_protocol.specs.Says.{AreAll, is_coord_effect}
use Rattle.arj_protocol.specs.Step.{refusal_up}
use Rattle.arj_protocol.specs.Words.{Uid}
use Rattle.arj_serve.proofs.Roles.{KeepsOn, Stays}
use Rattle.arj_store.specs.declared.store.ObjectStore.{Ghosts}

module _ {O : Type 0} (o : Ghosts O) (n : ℕ) (p : Kept O) (old : FileMap) (h : Here) (stands : StandsOn o n p old h) where
  pub same_coord : h.parts.coord ≡ p.coord
  same_coord = ap (λ (t : Parts). t.coord) stands.parts

  -- why it is refused
  pub refused_so : (header : Header) (act : Act) (why : Option ℕ) → why ≡ refusal_up header (asked_of act) p.coord →
      why_at header act h ≡ why
  refused_so header act why is = ap (refusal_up header (asked_of act)) same_coord ∙ sym is

  -- `f` is what the coordinator does with the records on the disk, and these are its effects
  module _ (f : List (Uid × Intent) → Coord →
      Did Coord) (own : AreAll is_coord_effect (f p.records p.coord).outs) (c : Coord) (none es : List Effect) (nothing : none ≡ []) (after : IsAfter (f p.records p.coord) c none es) where
    same_did : f p.records p.coord ≡ f h.disk.intents h.parts.coord
    same_did = λ i. f (stands.records i) (sym same_coord i)

    same_outs : es ≡ (f p.records p.coord).outs
    same_outs = after.outs ∙ ap (λ xs. xs ++ (f p.records p.coord).outs) nothing

    own_outs : AreAll is_coord_effect es
    own_outs = subst (AreAll is_coord_effect) (sym same_outs) own

    module _ (keeps_on : KeepsOn o) (stays : Stays o) (new : FileMap) (only : OnlyRecords old new) (form : AreInForm new) (before told : List Outgoing) where
      -- all of them were done
      pub did_does : (records : List (Uid × Intent)) → DoesRecords es old new p.records records before told
          → node.Does (StandsOn o n (record {
            services = p.services;
            coord = c;
            records =
                records;
          }) new) (with_coord h.parts (f h.disk.intents h.parts.coord).part) (f h.disk.intents h.parts.coord).outs h.disk before told
      did_does records does =
          let on = StandsOn o n (record { services = p.services; coord = c; records = records }) new in
          subst (λ (d : Did Coord). node.Does on (with_coord h.parts d.part) d.outs h.disk before told) same_did
          (subst (λ (x : Coord). node.Does on (with_coord h.parts x) (f p.records p.coord).outs h.disk before told) after.part
          (subst (λ (xs : List Effect). node.Does on (with_coord h.parts c) xs h.disk before told) same_outs
          (coord_does o keeps_on stays n p old new h stands only form c es records before told own_outs does)))

      -- a stop cut them
      pub did_halts : CutsRecords es old new before told →
          IsHalted (RestsOn o n new) (f h.disk.intents h.parts.coord).outs h.disk before told
      did_halts cut =
          subst (λ (d : Did Coord). IsHalted (RestsOn o n new) d.outs h.disk before told) same_did
          (subst (λ (xs : List Effect). IsHalted (RestsOn o n new) xs h.disk before told) same_outs
          (coord_halts o keeps_on stays n p old new h stands only form es before told own_outs cut))
