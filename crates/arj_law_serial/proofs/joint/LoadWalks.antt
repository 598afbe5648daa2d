-- What stores gave to calls that wait for it stays so by the lock machine, along what a node does.
use Rattle.arj_law_parts.proofs.Words
use Words.{◌≡◌, ◌⊎◌, ◌+◌, ◌∙◌, arith, cond, ℕ, List, [], Option, Some, None, refl, sym, ap, subst, inl, inr, ⊎_elim, Asked, Header}
use Words.{ObjectState, Reply, answers, Known, doing_of, Disk, Effect, Send, Parts, binding_number, Node, parts_in, restart_outs, Post}
use Words.{Seen}
use Words.list
use Words.loaded
use Rattle.arj_law_serial.proofs.Terms
use Terms.{Action, AreNumbered, In, at, down, up, Up, Walks, halted, walks_both, other_number, node_here, IsAskedFor, KnowsRequests, Guard}
use Terms.{Run, State, Load, state_code, IsSeenIn, Spot, Fixed, case_of, its, AreLoadsLast, AwaitsLoad}
use Rattle.arj_law_lock_view.proofs.running.{OtherSteps.node_there, StartSteps.no_work, VoteSteps.IsOldOrNew, VoteSteps.nodes_walk}
use Rattle.arj_law_lock_view.specs.view.Calling.{IsReached}
use Rattle.arj_law_serial.proofs.joint
use joint.{LoadGuards.as_it_is, Mute.AllSilent, Mute.restart_silent, Mute.silent_in}
use joint.LoadMoves.{IsOnward, IsSentBy, awaited, loads_next, sent_walk}

-- who is up was so before, or is the node with these parts, which sent what is new
abbrev pub IsMoved : Seen → ℕ → List Effect → Parts → Seen → Type 0
IsMoved M k outs v Z = IsOldOrNew M k v Z × IsSentBy M k outs Z

-- so it is along a walk
pub moves_walk : (e k : ℕ) (outs : List Effect) (v : Parts) (d : Disk) (M N : Seen) → ((j : ℕ) → N.nodes j ≡ M.nodes j) →
    ((p : Post) → In p N.sent → In p M.sent) → Walks (IsMoved M k outs v) e k outs (Up (IsMoved M k outs v) k v) d N
moves_walk e k outs v d M N nodes sent = walks_both (IsOldOrNew M k v) (IsSentBy M k outs) e k outs (Up (IsOldOrNew M k v) k v) (Up
    (IsSentBy M k outs) k v) d N (nodes_walk M k v e outs d N nodes) (sent_walk M k e outs outs v d N (λ q i. i) (λ p i. inl (sent p i)))

-- a call that waits at a store, and what this gives to it
abbrev pub GivesNow : Fixed → ℕ → State → ℕ → List Effect → Seen → Type 0
GivesNow f x S k outs M = (p : Post) (a : Asked) (st : ObjectState) (q : Known) → p.from ≡ k → list.In (Send p.to p.message) outs →
    answers p.message ≡ Some (a, Reply.Loaded (loaded.State st)) → AwaitsLoad x M a p.to p.from q →
    Guard (Load (binding_number q.binding) (state_code f.act f.code st)) S

-- who answers nobody gives nothing
pub none_given : (f : Fixed) (x : ℕ) (S : State) (k : ℕ) (outs : List Effect) (M : Seen) → AllSilent outs → GivesNow f x S k outs M
none_given f x S k outs M silent p a st q from out is w = absurd (let no_way : ◌≡◌ {A = Option (Asked × Reply)} None
    (Some (a, Reply.Loaded (loaded.State st))) = sym (silent_in outs silent p.to p.message out) ∙ is in cc no_way)

-- at a node that is up
pub loads_moved : (f : Fixed) (x : ℕ) (begun more : List Action) (S T : State) (k : ℕ) (d : Disk) (t : Parts) (M : Seen) (v : Parts)
    (outs : List Effect) → IsReached S → Run S T → AreLoadsLast f x S (up k d t M) → IsOnward t.coord outs v.coord → KnowsRequests M.sent k
    t.coord → ((p : Post) (a : Asked) (r : Reply) → In p M.sent → answers p.message ≡ Some (a, r) → IsAskedFor M.sent p a r)
    → GivesNow f x S k outs (up k d t M) → (Z : Seen) → IsMoved M k outs v Z → IsSeenIn (case_of f x more T) Z → AreLoadsLast f x T Z
loads_moved f x begun more S T k d t M v outs reached run before on requests asked gives Z (nodes, sent) seen =
    loads_next f x S T (up k d t M) k outs reached run before Z
    (λ j n p is live. ⊎_elim (λ old. inl (node_there f x [] k d (Some t) M j old.0 ∙ old.1)) (λ new. inr new.0) (nodes j n p is live))
    sent
    (λ a s q w. ⊎_elim (λ old. absurd (old.0 refl)) (λ new.
    awaited x k d t M v outs on requests asked Z sent (numbered a s q w new.1) a s q w new.1) (nodes k w.node w.parts w.here w.live))
    gives
  where
    numbered : (a : Asked) (s : ℕ) (q : Known) (w : AwaitsLoad x Z a k s q) → w.parts ≡ v → AreNumbered v.coord
    numbered a s q w parts =
        let n = w.node in
        let spot : Spot = record { node = k; disk = n.disk; parts = w.parts; seen = Z } in
        let i = its (case_of f x more T) spot
        (subst (IsSeenIn (case_of f x more T)) (sym (as_it_is k n w.parts Z w.here w.number w.live)) seen) in
        subst (λ (z : Parts). AreNumbered z.coord) parts i.numbered

-- at a node that starts
pub loads_restarted : (hd : Header) (f : Fixed) (x : ℕ) (S T : State) (k : ℕ) (d : Disk) (M : Seen) →
    let outs = restart_outs hd k (d.inc + 1) d in IsReached S → Run S T → AreLoadsLast f x S (down k d M) → (Z : Seen) →
    IsMoved M k outs (parts_in k (d.inc + 1) d) Z → AreLoadsLast f x T Z
loads_restarted hd f x S T k d M reached run before Z (nodes, sent) =
    loads_next f x S T (down k d M) k (restart_outs hd k (d.inc + 1) d) reached run before Z
    (λ j n p is live. ⊎_elim (λ old. inl (node_there f x [] k d None M j old.0 ∙ old.1)) (λ new. inr new.0) (nodes j n p is live))
    sent
    (λ a s q w. ⊎_elim (λ old. absurd (old.0 refl)) (λ new. absurd (no_work k (d.inc + 1) a.act w.doing
    (ap (λ (z : Parts). doing_of a.act z.coord) (sym new.1) ∙ w.found))) (nodes k w.node w.parts w.here w.live))
    (none_given f x S k (restart_outs hd k (d.inc + 1) d) (down k d M) (restart_silent hd k (d.inc + 1) d))

-- ---- where nothing is sent

-- who is up was so before, and nothing more was sent
abbrev pub IsStill : Seen → Seen → Type 0
IsStill M Z =
    ((j : ℕ) (n : Node) (t : Parts) → Z.nodes j ≡ Some n → n.live ≡ Some t → M.nodes j ≡ Some n) × ((p : Post) → In p Z.sent → In p M.sent)

-- so it is where a node stops
pub halted_still : (e k : ℕ) (d : Disk) (live : Option Parts) (M : Seen) → IsStill (at k d live M) (halted e k d M)
halted_still e k d live M = (
  (λ j n t is up. ⊎_elim (λ same. absurd (none j n t same is up))
      (λ other. (λ i. cond (other_number j k other i) (Some (record { number = k; disk = d; live = live })) (M.nodes j))
      ∙ sym (λ i. cond (other_number j k other i) (Some (record { number = k; disk = d; live = None })) (M.nodes j)) ∙ is) (apart j k)),
  (λ p i. i),
)
  where
    apart : (j m : ℕ) → (j ≡ m) ⊎ (j ≡ m → ⊥)
    apart j m = grind arith

    none : (j : ℕ) (n : Node) (t : Parts) → j ≡ k → (halted e k d M).nodes j ≡ Some n → n.live ≡ Some t → ⊥
    none j n t same is up =
        let one : ◌≡◌ {A = Option Node} (Some (record { number = k; disk = d; live = None })) (Some n) = sym
        (node_here M k (record { number = k; disk = d; live = None })) ∙ subst (λ (q : ℕ). (halted e k d M).nodes q ≡ Some n) same is in
        let its_node : record { number = k; disk = d; live = None } ≡ n = cc one in
        let no_way : ◌≡◌ {A = Option Parts} None (Some t) = ap (λ (z : Node). z.live) its_node ∙ up in
        cc no_way
