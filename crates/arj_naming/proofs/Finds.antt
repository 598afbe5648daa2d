-- What a store's recovery finds of entries.
use Rattle.std.proofs.Common.{◌≡◌, ◌∙◌, List, [], ◌∷◌, sym, Some}
use Rattle.std.specs.List.{AllByRecursion}
use Rattle.arj_base.specs.State.{StateInForm}
use Rattle.arj_naming.specs.Entries.{AreOfEntries, IsEntryState}
use Rattle.arj_naming.specs.Files.{GivesEntries}
use Rattle.arj_naming.specs.Found.{AreFound}
use Rattle.arj_protocol.specs.Words.{Uid, ObjectState}
use Rattle.arj_store.specs.Pair as files
use Rattle.arj_store.specs.Pair.{packed}
use Rattle.arj_store.specs.declared.answer.Found.{Found}

module _ (p q : files.Pair) (gives : GivesEntries p) (same : files.SamePair p q) where
  of_committed : (ss : List ObjectState) → AllByRecursion (λ (s : ObjectState). files.IsHeld q s.uid s) ss →
      AllByRecursion (λ (s : ObjectState). IsEntryState s.uid s) ss
  of_committed [] all = tt
  of_committed (s ∷ ss) all =
      let before : files.IsHeld p s.uid s =
      record { bytes = sym (same.committed s.uid) ∙ all.0.bytes; in_form = all.0.in_form; own = all.0.own } in
      (gives.held s before, of_committed ss all.1)

  of_prepared : (es : List (Uid × List ObjectState)) →
      AllByRecursion (λ (e : Uid × List ObjectState). (q.pend e.0 ≡ Some (packed e.1)) × AllByRecursion StateInForm e.1) es →
      AllByRecursion (λ (e : Uid × List ObjectState). AreOfEntries e.1) es
  of_prepared [] all = tt
  of_prepared (e ∷ es) all = (gives.pend e.0 e.1 (sym (same.prepared e.0) ∙ all.0.0) all.0.1, of_prepared es all.1)

  pub are_found : (f : Found) → files.FindsPair q f → AreFound f
  are_found f finds = record {
    committed = of_committed f.committed finds.committed;
    by_uid = finds.by_uid;
    prepared = of_prepared f.prepared finds.prepared;
    by_action = finds.by_action;
  }
