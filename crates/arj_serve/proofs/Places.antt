-- A call of the services leaves them those of their node.
use Rattle.std.proofs.Common.{◌≡◌, ◌∙◌, sym, ap, Some}
use Rattle.std.specs.Prelude.{is_some}
use Rattle.arj_naming.specs.Kept as naming
use Rattle.arj_protocol.specs.Server.{Server}
use Rattle.arj_serve.specs.Did.{Call, SamePlace}
use Rattle.arj_serve.specs.Kept.{Kept}

module _ {O : Type 0} (call : Call O) where
  pub place_same : call.new ≡ call.old → SamePlace call
  place_same same = record { number = ap (λ (k : Kept O). k.number) same; named = ap (λ (k : Kept O). is_some k.naming) same }

  pub place_store : call.new ≡ record call.old { store = call.new.store } → SamePlace call
  place_store same = record { number = ap (λ (k : Kept O). k.number) same; named = ap (λ (k : Kept O). is_some k.naming) same }

  pub place_server : (s : Server) → call.new ≡ record call.old { server = s } → SamePlace call
  place_server s same = record { number = ap (λ (k : Kept O). k.number) same; named = ap (λ (k : Kept O). is_some k.naming) same }

  pub place_naming : (n k : naming.Kept O) → call.old.naming ≡ Some n → call.new ≡ record call.old { naming = Some k } → SamePlace call
  place_naming n k was is =
      record { number = ap (λ (s : Kept O). s.number) is; named = ap (λ (s : Kept O). is_some s.naming) is ∙ sym (ap is_some was) }
