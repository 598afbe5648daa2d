-- What steps make of the answer for which they wait.
use Rattle.std.proofs.Common.{◌≡◌, ◌∙◌, ap, ℕ, Bool, true, false, Option, Some, None, IfSome, cond}
use Rattle.std.specs.Prelude.{is_some, option_map}
use Rattle.arj_msg.specs.declared.message.Asked.{Asked}
use Rattle.arj_msg.specs.declared.message.Message.{Message}
use Rattle.arj_protocol.specs.Ask.{Reply, answers}
use Rattle.arj_protocol.specs.Asking.{waits_for_call, keeps_after}
use Rattle.arj_protocol.specs.Call.{Steps, Moved, answered, has_changed}
use Rattle.arj_protocol.specs.Coord.{Keeping}
use Rattle.arj_bind.specs.Heard.{Came, awaited, heard_in, hears, came_by, reply_in}

pub heard_is : (free : Bool) (from : ℕ) (m : Message) (old new : Keeping) (s : Steps) (moved : Moved) (came : Came)
    → is_some (heard_in from m s) ≡ true
    → IfSome (reply_in m) (λ r. moved ≡ answered free old.kept s.goal s.at r)
    → new ≡ keeps_after s.goal (has_changed moved.step) moved.kept old
    → came ≡ came_by s moved.step
    → (came ≡ (hears free old s (heard_in from m s)).came) × (new ≡ (hears free old s (heard_in from m s)).keeping)
heard_is free from m old new s moved came there moved_is new_is came_is = by (answers m) there moved_is
  where
    on : (r : Reply) → moved ≡ answered free old.kept s.goal s.at r → (b : Bool) → is_some (cond b (Some r) None) ≡ true
        → (came ≡ (hears free old s (cond b (Some r) None)).came) × (new ≡ (hears free old s (cond b (Some r) None)).keeping)
    on r is true there =
        (came_is ∙ ap (λ (m : Moved). came_by s m.step) is, new_is ∙ ap (λ (m : Moved). keeps_after s.goal (has_changed m.step) m.kept old) is)
    on r is false there = absurd (cc there)

    by : (e : Option (Asked × Reply)) → is_some (awaited from s e) ≡ true
        → IfSome (option_map (λ (e : Asked × Reply). e.1) e) (λ r. moved ≡ answered free old.kept s.goal s.at r)
        → (came ≡ (hears free old s (awaited from s e)).came) × (new ≡ (hears free old s (awaited from s e)).keeping)
    by None there is = absurd (cc there)
    by (Some e) there is = on e.1 is (waits_for_call from e.0 e.1 s) there
