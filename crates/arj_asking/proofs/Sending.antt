-- Requests that go out, and the coordinator besides.
use Rattle.std.proofs.Common.{◌≡◌, ℕ, List, [], ◌∷◌, Bool, false, refl, ap, sym, ◌∙◌}
use Rattle.std.specs.Prelude.{map}
use Rattle.arj_asking.specs.Sent.{asked, asked_each, go_to, goes_to}
use Rattle.arj_commit.specs.Requests.{requests}
use Rattle.arj_commit.specs.Tolds.{sent_to}
use Rattle.arj_protocol.specs.Asking.{asks_all, asks_machine, asks_node, asks_step, is_invoke_ask}
use Rattle.arj_protocol.specs.Call.{Steps, next_ask, next_node}
use Rattle.arj_protocol.specs.Commit.{Machine, Voting, Preparing, Confirming, confirm_ask, plan_of, states_for, vote_ask}
use Rattle.arj_protocol.specs.Coord.{Coord}
use Rattle.arj_protocol.specs.Effect.{Did, Effect, Send}
use Rattle.arj_protocol.specs.Tree.{root_of, ends_of}
use Rattle.arj_protocol.specs.Words.{Uid, Path, End, Ask, Message, request}
use Rattle.arj_protocol.specs.Words.ask

-- the request of a call's step
pub step_asked : (s : Steps) (c : Coord) (ends : List (Uid × End)) (invoke : Bool) (node : ℕ) (m : Message)
    → ends ≡ ends_of (root_of s.path) c.tree → invoke ≡ is_invoke_ask (next_ask ends s) → node ≡ next_node s
    → m ≡ request (record { path = s.path; req = s.req }) (next_ask ends s)
    → asked (record { path = s.path; invoke = invoke; node = node; request = m }) c ≡ asks_step s c
step_asked s c ends invoke node m ends_are invoke_is node_is request_is =
    let node_all : (es : List (Uid × End)) → Did Coord = λ es. asks_node s.path s.req (next_node s, next_ask es s) c in
    (λ i. record {
      part = goes_to s.path (invoke_is i) (node_is i) c;
      outs = Send (node_is i) (request_is i) ∷ [];
    })
    ∙ ap node_all ends_are

-- requests that aren't Invokes
all_asked : (p : Path) (req : ℕ) (g : ℕ → Ask) → ((n : ℕ) → is_invoke_ask (g n) ≡ false) → (ns : List ℕ) (c : Coord)
    → asked_each p (map {A = ℕ × Ask} {B =
    ℕ × Message} (λ w. (w.0, request (record { path = p; req = req }) w.1)) (map {A = ℕ} {B = ℕ × Ask} (λ n. (n, g n)) ns)) c
    ≡ asks_all p req (map {A = ℕ} {B = ℕ × Ask} (λ n. (n, g n)) ns) c
all_asked p req g plain [] c = refl
all_asked p req g plain (n ∷ ns) c =
    let rest : List (ℕ × Message) =
    map {A = ℕ × Ask} {B =
    ℕ × Message} (λ w. (w.0, request (record { path = p; req = req }) w.1)) (map {A = ℕ} {B = ℕ × Ask} (λ n. (n, g n)) ns) in
    let first : Effect = Send n (request (record { path = p; req = req }) (g n)) in
    let later : asked_each p rest (goes_to p (is_invoke_ask (g n)) n c) ≡ asks_all p req (map {A = ℕ} {B =
    ℕ × Ask} (λ n. (n, g n)) ns) (goes_to p (is_invoke_ask (g n)) n c) =
    all_asked p req g plain ns (goes_to p (is_invoke_ask (g n)) n c) in
    (λ i. record { part = go_to p rest (goes_to p (sym (plain n) i) n c); outs = first ∷ map sent_to rest })
    ∙ (λ i. record { part = (later i).part; outs = first ∷ (later i).outs })

-- the requests of a commit's step
pub machine_asked : (m : Machine) (c : Coord) → asked_each (plan_of m).path (requests m) c ≡ asks_machine m c
machine_asked (Voting p left) c = all_asked p.path p.req (vote_ask p) (λ n. refl) left c
machine_asked (Preparing p left) c = all_asked p.path p.req (λ n. ask.Prepare (states_for n p)) (λ n. refl) left c
machine_asked (Confirming p) c = all_asked p.path p.req (λ n. confirm_ask p) (λ n. refl) (1 ∷ []) c
