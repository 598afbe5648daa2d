-- The newest decided writer of an object's disk machine, with the turns of those before it.
use Rattle.arj_law_parts.proofs.Words
use Words.{◌≡◌, ◌≢◌, ◌⊎◌, ◌==◌, ℕ, List, [], ◌∷◌, true, Contains, Option, Some, None, is_some, refl, sym, ◌∙◌, ap, inl, inr, ⊎_elim}
use Words.{eqb-true, unwrap_or, Line, uid_number}
use Rattle.arj_law_serial.proofs.Terms
use Terms.{Act, acts, Done, Packed, decided_in, last_in, never, or_cases, is_top, HasNothing, AreTurnsOf, IsCalledFirst}
use Terms.words as disk

-- a number that is decided is that of one of these
pub decided_at : (ds : List Done) (t : ℕ) → decided_in ds t ≡ true → (d : Done) × disk.In d ds × (d.top ≡ t)
decided_at [] t on = absurd (cc on)
decided_at (d ∷ ds) t on = ⊎_elim (λ here. (d, inl refl, eqb-true d.top t here)) (λ rest. let r = decided_at ds t rest in
    (r.0, inr r.1, r.2)) (or_cases (d.top == t) (decided_in ds t) on)

-- Of these decided tops it is the newest that wrote: what it wrote is the last state; and each other that wrote had its commit called
-- before it was decided, or nothing of it survives.
pub record IsNewest (lines : List Line) (first : Packed) (ds : List Done) : Type 0 where
  pub done : Done
  pub there : disk.In done ds
  pub state : Packed
  pub writes : (let p = done.plan in p.writes) ≡ Some state
  pub last : last_in first ds ≡ state
  pub turns : (e : Done) (a b : Act) → disk.In e ds → is_some (let p = e.plan in p.writes) ≡ true → Contains (acts lines) a →
      Contains (acts lines) b → uid_number a.uid ≡ e.top → uid_number b.uid ≡ done.top → is_top b.kind ≡ true → e.top ≢ done.top →
      IsCalledFirst lines a.uid b.uid ⊎ HasNothing lines b

-- or none wrote
abbrev pub WroteNone : Packed → List Done → Type 0
WroteNone first ds = (last_in first ds ≡ first) × ((e : Done) → disk.In e ds → (let p = e.plan in p.writes) ≡ None)

pub newest_of : (lines : List Line) (first : Packed) (ds : List Done) → AreTurnsOf lines ds → WroteNone first ds ⊎ IsNewest lines first ds
newest_of lines first [] turns = inl (refl, λ e i. absurd i)
newest_of lines first (d ∷ ds) turns = by (let p = d.plan in p.writes) refl (newest_of lines first ds turns.1)
  where
    by : (o : Option Packed) → (let p = d.plan in p.writes) ≡ o → WroteNone first ds ⊎ IsNewest lines first ds →
        WroteNone first (d ∷ ds) ⊎ IsNewest lines first (d ∷ ds)
    by (Some w) is rest = inr (record {
      done = d;
      there = inl refl;
      state = w;
      writes = is;
      last = (λ i. unwrap_or (is i) (last_in first ds));
      turns = λ e a b i some in_a in_b ea db top apart. ⊎_elim (λ (same : d ≡ e). absurd (apart (ap (λ (z : Done). z.top) (sym same))))
          (λ (j : disk.In e ds). turns.0 e a b j in_a in_b ea db top apart) i;
    })
    by None is (inl z) = inl (
      (λ i. unwrap_or (is i) (last_in first ds)) ∙ z.0,
      λ e i. ⊎_elim (λ (same : d ≡ e). ap (λ (y : Done). let p = y.plan in p.writes) (sym same) ∙ is) (λ (j : disk.In e ds). z.1 e j) i,
    )
    by None is (inr z) = inr (record {
      done = z.done;
      there = inr z.there;
      state = z.state;
      writes = z.writes;
      last = (λ i. unwrap_or (is i) (last_in first ds)) ∙ z.last;
      turns = λ e a b i some in_a in_b ea db top apart. ⊎_elim (λ (same : d ≡ e). absurd (never some (ap (λ (y : Done). let p = y.plan in
          is_some p.writes) (sym same) ∙ ap is_some is))) (λ (j : disk.In e ds). z.turns e a b j some in_a in_b ea db top apart) i;
    })
