-- States that tops make.
use Rattle.std.specs.Option.{option_map}
use Rattle.std.proofs.Common.{◌≡◌, ℕ, Option, Some, None, refl}
use Rattle.arj_protocol.specs.Copy.{Copy, Over, changed_state, over_of, state_over}
use Rattle.arj_protocol.specs.Words.{ObjectState, Uid}

-- a state that a top made of the object is that of its overlay
pub made_over : (top : Uid) (x : ℕ) (c : Copy) (st : ObjectState) → changed_state top x c ≡ Some st →
    (e : Over) × (over_of top c.stack ≡ Some e) × (state_over top x c e ≡ st)
made_over top x c st is = by (over_of top c.stack) refl is
  where
    by : (o : Option Over) → over_of top c.stack ≡ o → option_map (state_over top x c) o ≡ Some st →
        (e : Over) × (over_of top c.stack ≡ Some e) × (state_over top x c e ≡ st)
    by None found h = absurd (cc h)
    by (Some e) found h = (e, found, cc h)
