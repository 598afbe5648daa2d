-- Requests and tolds, as the protocol lists them.
use Rattle.std.proofs.Common.{◌≡◌, ℕ, List, [], ◌∷◌, Bool, true, false, not, ◌||◌, ◌==◌, if◌then◌else◌, map, refl, ap}
use Rattle.arj_base.specs.declared.mode.End.TheVariants as ending
use Rattle.arj_msg.specs.declared.ask.Ask.{Ask}
use Rattle.arj_msg.specs.declared.message.Message.{Message}
use Rattle.arj_protocol.specs.Ask.{actor}
use Rattle.arj_protocol.specs.Commit.{Plan, Machine, ask_of, participants, has_record}
use Rattle.arj_protocol.specs.Effect.{Effect, Send}
use Rattle.arj_protocol.specs.Ending.{decided_told, tell_all}
use Rattle.arj_protocol.specs.Order.{has, without_number}
use Rattle.arj_protocol.specs.Tree.{root_of}
use Rattle.arj_commit.specs.Awaiting.{Awaiting}
use Rattle.arj_commit.specs.Requests.{asked_of, requests, votes, prepares}
use Rattle.arj_commit.specs.Steps.{voting, preparing}
use Rattle.arj_commit.specs.Tolds.{sent_to, told_to, told_by, tolds, tolds_again}

fused : (p : Plan) (m : Machine) (ns : List ℕ)
    → map {A = ℕ} {B = ℕ × Message} (λ n. asked_of p (n, ask_of m n)) ns ≡ map {A = ℕ × Ask} {B =
    ℕ × Message} (asked_of p) (map {A = ℕ} {B = ℕ × Ask} (λ n. (n, ask_of m n)) ns)
fused p m [] = refl
fused p m (n ∷ ns) = ap (λ rest. asked_of p (n, ask_of m n) ∷ rest) (fused p m ns)

pub votes_wait : (a : Awaiting) → votes a.plan a.left ≡ requests (voting a)
votes_wait a = fused a.plan (voting a) a.left

pub prepares_wait : (a : Awaiting) → prepares a.plan a.left ≡ requests (preparing a)
prepares_wait a = fused a.plan (preparing a) a.left

told_one : (p : Plan) (n : ℕ) (b : Bool)
    → sent_to (n, told_by p b (has_record p)) ≡ (if b then Send n (told_to p ending.Commit (has_record p)) else Send n (told_to p ending.Abort false))
told_one p n true = refl
told_one p n false = refl

pub told_first : (p : Plan) (sent : List ℕ)
    → map {A = ℕ × Message} {B =
    Effect} sent_to (tolds p sent (participants p) (has_record p)) ≡ map (decided_told (root_of p.path) (actor p.path) p) sent
told_first p [] = refl
told_first p (n ∷ ns) = λ i. told_one p n (has (participants p) n) i ∷ told_first p ns i

pub told_again : (p : Plan) (ns : List ℕ)
    → map {A = ℕ × Message} {B = Effect} sent_to (tolds_again p ns) ≡ tell_all (root_of p.path) true ((actor p.path, ending.Commit) ∷ []) ns
told_again p [] = refl
told_again p (n ∷ ns) = ap (λ rest. Send n (told_to p ending.Commit true) ∷ rest) (told_again p ns)

-- a node that isn't there is left out without effect
pub without_other : (n : ℕ) (ns : List ℕ) → has ns n ≡ false → ns ≡ without_number n ns
without_other n [] none = refl
without_other n (m ∷ ns) none = by (m == n) none (without_other n ns)
  where
    by : (b : Bool) → (b || has ns n) ≡ false → (has ns n ≡ false → ns ≡ without_number n ns)
        → m ∷ ns ≡ (if not b then m ∷ without_number n ns else without_number n ns)
    by true e rest = absurd (cc e)
    by false e rest = ap (λ ms. m ∷ ms) (rest e)
