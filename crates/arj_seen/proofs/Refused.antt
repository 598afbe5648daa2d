-- Why an input is refused.
use Rattle.std.proofs.Common.{◌≡◌, ◌≢◌, ℕ, List, sym, subst}
use Rattle.arj_seen.specs.Input.{HasBadJournal, IsRefused}
use Rattle.arj_seen.specs.declared.fault.SeenFault.{SeenFault}
use Rattle.arj_seen.specs.declared.fault.SeenFault.TheVariants as fault

-- by its journal, or since memory was wanting
pub by_journal : (bytes : List ℕ) (f : SeenFault) → (f ≢ fault.Memory → (n : ℕ) × (f ≡ fault.NotOfAJournal n) × HasBadJournal bytes n) →
    IsRefused bytes f
by_journal bytes fault.Memory g = tt
by_journal bytes (fault.NotOfAJournal n) g =
    let h = g (λ e. cc e) in
    let same : fault.NotOfAJournal n ≡ fault.NotOfAJournal h.0 = h.1 in
    let is : n ≡ h.0 = cc same in
    subst (HasBadJournal bytes) (sym is) h.2
by_journal bytes (fault.NotOfAScript n) g =
    let h = g (λ e. cc e) in let never : fault.NotOfAScript n ≡ fault.NotOfAJournal h.0 = h.1 in absurd (cc never)
by_journal bytes (fault.NoRun n) g = let h = g (λ e. cc e) in let never : fault.NoRun n ≡ fault.NotOfAJournal h.0 = h.1 in absurd (cc never)
by_journal bytes (fault.NoJournal n) g =
    let h = g (λ e. cc e) in let never : fault.NoJournal n ≡ fault.NotOfAJournal h.0 = h.1 in absurd (cc never)
