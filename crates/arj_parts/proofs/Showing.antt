-- What the services show of an object is what the node's parts show.
use Rattle.std.proofs.Common.{◌≡◌, ◌∙◌, ◌==◌, ℕ, Bool, List, [], ◌++◌, refl, sym, ap, subst, Option, Some, None}
use Rattle.std.specs.Prelude.{is_some}
use Rattle.arj_base.specs.Uid.{entry, object}
use Rattle.arj_base.specs.declared.state.ObjectState.{ObjectState}
use Rattle.arj_disk.specs.Disk.{Same}
use Rattle.arj_disk.specs.FileMap.{FileMap}
use Rattle.arj_journal.specs.declared.body.Line.{Line}
use Rattle.arj_naming.specs.Said.{said}
use Rattle.arj_node.specs.Acting as node
use Rattle.arj_node.specs.Outgoing.{IsHalted, effects_of, loud}
use Rattle.arj_node.specs.declared.outgoing.Outgoing.{Outgoing}
use Rattle.arj_parts.specs.Kept.{Kept, RestsOn, StandsOn, has_naming}
use Rattle.arj_parts.specs.Said.{says_of}
use Rattle.arj_parts.specs.Works.{is_state_effect}
use Rattle.arj_parts.proofs.Servings.{cut_so, says_loud}
use Rattle.arj_protocol.specs.Effect.{Disk, Effect, Pair, holder_of}
use Rattle.arj_protocol.specs.Node.{Here}
use Rattle.arj_protocol.specs.Says.{AreAll}
use Rattle.arj_protocol.specs.Step.{copy_line, entry_line, show_entry, show_outs, shown}
use Rattle.arj_protocol.specs.Words.{Uid}
use Rattle.arj_protocol.proofs.PartSays.{all_both, all_if}
use Rattle.arj_serve.specs.Did.{Call}
use Rattle.arj_serve.specs.Kept.{Leaves}
use Rattle.arj_serve.specs.Shown.{Shows, ShowsInPart}
use Rattle.arj_serve.proofs.Roles.{Stays, nothing_left}
use Rattle.arj_store.specs.declared.store.ObjectStore.{Ghosts}

-- ---- reads and lines alone

shown_states : (named : Bool) (line : Option ObjectState → List Effect) →
    ((s : Option ObjectState) → AreAll (is_state_effect named) (line s)) → (u : Uid) (d : Pair) (holder : Option Uid) →
    AreAll (is_state_effect named) (shown line u d holder)
shown_states named line each u d (Some holder) = refl
shown_states named line each u d None = each _

entry_states : (named : Bool) (x : ℕ) (s : Option ObjectState) → AreAll (is_state_effect named) (entry_line x s)
entry_states named x None = refl
entry_states named x (Some s) = refl

copy_states : (named : Bool) (n x : ℕ) (s : Option ObjectState) → AreAll (is_state_effect named) (copy_line n x s)
copy_states named n x None = refl
copy_states named n x (Some s) = refl

show_states : (named : Bool) (n x : ℕ) (d : Disk) → AreAll (is_state_effect named) (show_outs n x d)
show_states named n x d =
    let test = is_state_effect named in
    all_both test (show_entry n x d.names) (shown (copy_line n x) (object x) d.store (holder_of (object x) d.store))
    (all_if test (n == 1) (shown (entry_line x) (entry x) d.names (holder_of (entry x) d.names)) [] (shown_states named (entry_line x) (entry_states named x) (entry x) d.names (holder_of (entry x) d.names)) refl)
    (shown_states named (copy_line n x) (copy_states named n x) (object x) d.store (holder_of (object x) d.store))

-- ---- the show

module _ {O : Type 0} (o : Ghosts O) (stays : Stays o) (p : Kept O) (x : ℕ) (file left : FileMap) (same : Same file left) (none lines : List Line) (nothing : none ≡ []) where
  abbrev pub the_show : Call O
  the_show = record { old = p.services; new = p.services; file = file; left = left; before = none; after = lines }

  files_are : left ≡ file
  files_are = λ i q. same q i

  lines_are : (es : List Effect) → lines ≡ none ++ said es → lines ≡ said es
  lines_are es are = are ∙ ap (λ xs. xs ++ said es) nothing

  module _ (n : ℕ) (h : Here) (stands : StandsOn o n p file h) (before after : List Outgoing) (told : effects_of after ≡ effects_of before ++ says_of lines) where
    pub shown_so : Shows o (show_outs p.services.number x) the_show → node.Shows (StandsOn o n p left) h (show_outs n x h.disk) before after
    shown_so shows =
        let is = shows h.disk stands.services in
        record {
          stands = subst (λ f. StandsOn o n p f h) (sym files_are) stands;
          tells = told ∙ ap (λ xs. effects_of before ++ xs)
              (ap says_of (lines_are (show_outs p.services.number x h.disk) is.lines) ∙ (says_loud (show_outs p.services.number x h.disk) is.local ∙ ap (λ k. loud (show_outs k x h.disk)) stands.number));
        }

    pub show_cut : ShowsInPart o (show_outs p.services.number x) the_show →
        IsHalted (RestsOn o n left) (show_outs n x h.disk) h.disk before after
    show_cut cuts = subst (λ k. IsHalted (RestsOn o n left) (show_outs k x h.disk) h.disk before after) stands.number
        (cut_so o stays n p h the_show refl stands (subst (λ f. Leaves o (is_some p.services.naming) file f) (sym files_are) (nothing_left o p.services file h.disk stands.services))
        (show_outs p.services.number x h.disk) before after (cuts h.disk stands.services) (show_states (has_naming n) p.services.number x h.disk)
        (λ es are. told ∙ ap (λ ls. effects_of before ++ says_of ls) (lines_are es are)))
