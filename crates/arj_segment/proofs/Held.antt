-- What the segments of a role say, as a segment comes above all others, and as older ones go.
use Rattle.std.proofs.Common.{◌≡◌, ◌≢◌, ◌⊎◌, ◌∙◌, ℕ, List, ◌<◌, ◌≤◌, arith, refl, sym, ap, ⊎_elim, Option, Some, None}
use Rattle.std.specs.Prelude.{option_map}
use Rattle.std.specs.Option.{option_or}
use Rattle.arj_base.specs.declared.uid.Uid.{Uid}
use Rattle.arj_segment_file.proofs.Newest.{newest_put, newest_top, newest_is, nothing_there}
use Rattle.arj_segment_file.specs.Newest.{numbered}
use Rattle.arj_store.specs.Pair.{newer}
use Rattle.arj_segment.specs.Says.{numbers, state_in, state_at, placed, place}

-- the state that segments hold of an object
abbrev pub holds : (ℕ → Option (List ℕ)) → Uid → Option (List ℕ)
holds segment u = option_map (λ p. p.1) (placed segment u)

-- there is no segment from this number on
abbrev pub IsAbove : (ℕ → Option (List ℕ)) → ℕ → Type 0
IsAbove segment k = (j : ℕ) → k ≤ j → j < numbers → segment j ≡ None

-- the second segments are the first but for this number
abbrev pub SameBut : (ℕ → Option (List ℕ)) → (ℕ → Option (List ℕ)) → ℕ → Type 0
SameBut old new k = (j : ℕ) → j < numbers → j ≢ k → new j ≡ old j

-- the place when this file comes above all others
abbrev pub place_after : Option (List ℕ) → ℕ → Option ℕ → Option ℕ
place_after None k before = before
place_after (Some x) k before = Some k

module _ (old new : ℕ → Option (List ℕ)) (k : ℕ) (within : k < numbers) (above : IsAbove old k) (same : SameBut old new k) where
  placed_put : (u : Uid) → placed new u ≡ option_or (numbered k (state_in u (new k))) (placed old u)
  placed_put u =
      newest_put (state_at old u) (state_at new u) k numbers within (λ j from below. ap (state_in u) (above j from below)) (λ j below other. ap (state_in u) (same j below other))

  pub held_put : (u : Uid) → holds new u ≡ newer (state_in u (new k)) (holds old u)
  held_put u = ap (option_map (λ p. p.1)) (placed_put u) ∙ by (state_in u (new k))
    where
      by : (o : Option (List ℕ)) → option_map (λ p. p.1) (option_or (numbered k o) (placed old u)) ≡ newer o (holds old u)
      by None = refl
      by (Some x) = refl

  pub place_put : (u : Uid) → place new u ≡ place_after (state_in u (new k)) k (place old u)
  place_put u = ap (option_map (λ p. p.0)) (placed_put u) ∙ by (state_in u (new k))
    where
      by : (o : Option (List ℕ)) → option_map (λ p. p.0) (option_or (numbered k o) (placed old u)) ≡ place_after o k (place old u)
      by None = refl
      by (Some x) = refl

-- the segment with this number is the last, and has a state of each object of which an older one has
pub record IsTop (segment : ℕ → Option (List ℕ)) (k : ℕ) : Type 0 where
  pub last : (j : ℕ) → k < j → j < numbers → segment j ≡ None
  pub covers : (u : Uid) → state_at segment u k ≡ None → (j : ℕ) → j < k → state_at segment u j ≡ None

pub placed_top : (segment : ℕ → Option (List ℕ)) (k : ℕ) → k < numbers → IsTop segment k → (u : Uid) →
    placed segment u ≡ numbered k (state_at segment u k)
placed_top segment k within top u =
    newest_top (state_at segment u) k numbers within (λ j above below. ap (state_in u) (top.last j above below)) (top.covers u)

-- where the place is known, the state is in the segment that has the place
pub held_at : (segment : ℕ → Option (List ℕ)) (u : Uid) (k : ℕ) → place segment u ≡ Some k → holds segment u ≡ state_at segment u k
held_at segment u k is = by (placed segment u) refl is
  where
    by : (o : Option (ℕ × List ℕ)) → placed segment u ≡ o → option_map (λ p. p.0) o ≡ Some k →
        option_map (λ p. p.1) o ≡ state_at segment u k
    by None found e = let never : None ≡ Some k = e in absurd cc
    by (Some p) found e =
        let number : p.0 ≡ k = cc in sym (newest_is (state_at segment u) numbers p found).1 ∙ ap (state_at segment u) number

-- nothing is in segments that hold nothing
pub holds_none : (segment : ℕ → Option (List ℕ)) (u : Uid) → holds segment u ≡ None → (j : ℕ) → j < numbers → state_at segment u j ≡ None
holds_none segment u is = nothing_there (state_at segment u) numbers (by (placed segment u) is)
  where
    by : (o : Option (ℕ × List ℕ)) → option_map (λ p. p.1) o ≡ None → o ≡ None
    by None e = refl
    by (Some p) e = let never : Some p.1 ≡ None = e in absurd cc

-- ---- a merge

module _ (old new : ℕ →
    Option (List ℕ)) (k : ℕ) (within : k < numbers) (above : IsAbove old k) (same : SameBut old new k) (all : (u : Uid) →
    state_in u (new k) ≡ holds old u) where
  -- a file with all that is held changes nothing
  pub merged_holds : (u : Uid) → holds new u ≡ holds old u
  merged_holds u = held_put old new k within above same u ∙ ap (λ o. newer o (holds old u)) (all u) ∙ by (holds old u)
    where
      by : (o : Option (List ℕ)) → newer o o ≡ o
      by None = refl
      by (Some x) = refl

  pub merged_top : IsTop new k
  merged_top = record {
    last = λ j over below. same j below (λ e. omega (arith, over, e)) ∙ above j (omega (arith, over)) below;
    covers = λ u none j under. ap (state_in u) (same j (omega (arith, under, within)) (λ e. omega (arith, under, e))) ∙ holds_none old u (sym (all u) ∙ none) j (omega (arith, under, within));
  }

module _ (old new : ℕ → Option (List ℕ)) (k : ℕ) (within : k < numbers) (top : IsTop old k) (same : new k ≡ old k) (fewer : (j : ℕ) →
    j < numbers → (new j ≡ old j) ⊎ (new j ≡ None)) where
  -- older segments may go
  pub older_top : IsTop new k
  older_top = record {
    last = λ j over below. ⊎_elim (λ (e : new j ≡ old j). e ∙ top.last j over below) (λ (e : new j ≡ None). e) (fewer j below);
    covers = λ u none j under. ⊎_elim (λ (e : new j ≡ old j). ap (state_in u) e ∙ top.covers u (sym (ap (state_in u) same) ∙ none) j under) (λ (e : new j ≡ None). ap (state_in u) e) (fewer j (omega (arith, under, within)));
  }

  older_placed : (u : Uid) → placed new u ≡ placed old u
  older_placed u = placed_top new k within older_top u ∙ ap (λ o. numbered k (state_in u o)) same ∙ sym (placed_top old k within top u)

  pub older_holds : (u : Uid) → holds new u ≡ holds old u
  older_holds u = ap (option_map (λ p. p.1)) (older_placed u)

  pub older_place : (u : Uid) → place new u ≡ option_map (λ x. k) (holds old u)
  older_place u =
      ap (option_map (λ p. p.0)) (placed_top new k within older_top u ∙ ap (λ o. numbered k (state_in u o)) same) ∙ by (state_at old u k) ∙ ap (option_map (λ x. k)) (sym (ap (option_map (λ p. p.1)) (placed_top old k within top u) ∙ snd (state_at old u k)))
    where
      by : (o : Option (List ℕ)) → option_map (λ p. p.0) (numbered k o) ≡ option_map (λ x. k) o
      by None = refl
      by (Some x) = refl

      snd : (o : Option (List ℕ)) → option_map (λ p. p.1) (numbered k o) ≡ o
      snd None = refl
      snd (Some x) = refl
