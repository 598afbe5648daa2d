-- What a working top's write lock gives: the entry stays, and loads are of the last state.
use Rattle.arj_law_disk.proofs.Terms
use Terms.{◌≡◌, ℕ, true, Option, Some, None, is_some, refl, sym, ◌∙◌, ap, subst, inl, inr, ⊎_elim, Core, Named, Office, State, Packed, Hold}
use Terms.{decided, undecided, last, last_entry, IsExcused, has}
use Rattle.arj_law_disk.proofs.machine.{Base.never_some, Base.some_is, History.effective_none, Restarts.write_clears}
use Rattle.arj_law_disk.specs.machine.NamingLaws.{HoldsWrite, LoadsTheLast}

-- and then it is the last one
pub entry_is_last : (A : Office) → Named A → (t : ℕ) → HoldsWrite A t → A.world.disk.entry ≡ last_entry A.world.disk
entry_is_last A c t holds = by S.entry_pend refl
  where
    S : State
    S = A.world.disk

    by : (o : Option Hold) → S.entry_pend ≡ o → S.entry ≡ last_entry S
    by None e =
        sym (effective_none (decided S) (λ (x : Packed). x) S.entry_pend S.entry e) ∙ (let core = c.whole.core in core.effective.entry)
    by (Some h) e = absurd (write_clears A c t holds.0 holds.1 holds.2 h e)

pub loads_the_last : (A : Office) → Named A → LoadsTheLast A
loads_the_last A c t s g holds i free held = (is_last, alone)
  where
    S : State
    S = A.world.disk

    core : Core S
    core = c.whole.core

    clear : (h : Hold) → S.entry_pend ≡ Some h → ⊥
    clear = write_clears A c t holds.0 holds.1 holds.2

    listed : has s (last_entry S).content ≡ true
    listed = subst (λ (e : Packed). has s e.content ≡ true) (entry_is_last A c t holds) i

    is_last : g ≡ last S
    is_last = some_is held (sym (effective_none (decided S) Some (S.pend s) (S.held s) free) ∙ core.effective.store s listed)

    alone : (z : ℕ) → S.conf z ≡ true → undecided S z ≡ true → ⊥
    alone z cz uz = wrote (S.plan z).writes refl
      where
        wrote : (o : Option Packed) → (S.plan z).writes ≡ o → ⊥
        wrote None w = let p = (core.covered.plain z cz uz w).1 in clear p.0 p.1
        wrote (Some x) w = ⊎_elim
            (λ (got : S.got z s ≡ true). never_some (core.firm.kept z s uz got) free)
            (λ (y : IsExcused S z s). clear y.by_entry y.there)
            (core.covered.stores z s cz (inl uz) (ap is_some w) (inr listed))
