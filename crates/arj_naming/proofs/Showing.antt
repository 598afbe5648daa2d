-- What is shown of an entry is what the store read of it.
use Rattle.std.proofs.Common.{◌≡◌, ◌∙◌, ◌++◌, ℕ, true, false, List, refl, sym, Option, Some, None}
use Rattle.std.specs.Prelude.{IfSome, is_some}
use Rattle.std.proofs.lemmas.List.{append-nil}
use Rattle.arj_base.specs.State.{StateInForm}
use Rattle.arj_base.specs.Uid.{entry}
use Rattle.arj_base.specs.declared.state.ObjectState.{ObjectState}
use Rattle.arj_base.specs.declared.uid.Uid.{Uid}
use Rattle.arj_disk.specs.Says.{names}
use Rattle.arj_journal.specs.declared.body.Line.{Line}
use Rattle.arj_naming.specs.Entries.{AreEntries, IsEntryState}
use Rattle.arj_naming.specs.Said.{said}
use Rattle.arj_protocol.specs.Effect.{Pair, held_at, holder_of}
use Rattle.arj_protocol.specs.Step.{entry_line, shown}
use Rattle.arj_store.specs.Pair as files
use Rattle.arj_store.specs.declared.answer.Read.{Read}
use Rattle.arj_law_store.specs.store.Files.{IsPairOf}
use Rattle.arj_law_store.specs.store.Reads.{state_of}
use Rattle.arj_law_store.proofs.store.Held.{found}
use Rattle.arj_law_store.proofs.store.Lookups.{read_is, reads}

entry_form : (u : Uid) (d : Pair) → AreEntries d → IfSome (held_at u d) StateInForm
entry_form u d good = by (held_at u d) (found IsEntryState u d.held good.held)
  where
    by : (o : Option ObjectState) → IfSome o (IsEntryState u) → IfSome o StateInForm
    by None own = tt
    by (Some s) own = own.state.in_form

-- an entry that isn't in doubt was read
pub read_shown : (p : files.Pair) (d : Pair) (x : ℕ) (a : Read) (before : List Line) → IsPairOf p d → AreEntries d →
    ((a b u : Uid) → names (p.pend a) u → names (p.pend b) u → a ≡ b)
    → holder_of (entry x) d ≡ None → files.Reads p (entry x) a →
    before ++ said (entry_line x (state_of a)) ≡ before ++ said (shown (entry_line x) (entry x) d (holder_of (entry x) d))
read_shown p d x a before are good once free is =
    let at = read_is d (entry x) a free (reads p d are once (entry x) a (entry_form (entry x) d good) is) in
    (λ i. before ++ said (entry_line x (sym at i))) ∙ (λ i. before ++ said (shown (entry_line x) (entry x) d (sym free i)))

-- an entry in doubt isn't shown
pub not_shown : (d : Pair) (x : ℕ) (holder : Option Uid) (before : List Line) → holder ≡ holder_of (entry x) d → is_some holder ≡ true →
    before ≡ before ++ said (shown (entry_line x) (entry x) d (holder_of (entry x) d))
not_shown d x None before is some = absurd (cc some)
not_shown d x (Some holder) before is some = sym (append-nil before) ∙ (λ i. before ++ said (shown (entry_line x) (entry x) d (is i)))

-- what isn't there is nothing
pub none_is : {A : Type 0} (o : Option A) → is_some o ≡ false → o ≡ None
none_is None is = refl
none_is (Some a) is = absurd (cc is)
