-- What answers nobody: what a node sends as it starts, and what it sends again.
use Rattle.arj_law_parts.proofs.Words
use Words.{◌≡◌, ℕ, List, [], ◌∷◌, ◌++◌, true, map, None, refl, subst, inl, inr, ⊤, AllByRecursion, Header, Message, Uid, asks, answers}
use Words.{again_all, Coord, Disk, Do, Effect, Intent, Say, Send, tell, tell_all, tick_outs, Parts, holders, query_about, Node}
use Words.{restart_outs, tolds_again}
use Words.list
use Words.ending
use Rattle.arj_law_serial.proofs.Terms.{all_append, AreTrue, all_flat, all_map, no_answer}
use Rattle.arj_law_serial.proofs.joint.Restarting.{restart_said}

-- ---- without answers

-- it answers nobody
abbrev pub IsSilent : Effect → Type 0
IsSilent (Send to m) = answers m ≡ None
IsSilent (Say b) = ⊤
IsSilent (Do w) = ⊤

abbrev pub AllSilent : List Effect → Type 0
AllSilent outs = AllByRecursion IsSilent outs

-- it neither answers nor asks
abbrev pub IsMute : Effect → Type 0
IsMute (Send to m) = (answers m ≡ None) × (asks m ≡ None)
IsMute (Say b) = ⊤
IsMute (Do w) = ⊤

abbrev pub AllMute : List Effect → Type 0
AllMute outs = AllByRecursion IsMute outs

-- ---- what is sent again

-- ends that are told again, and queries
again_mute : (telling : List (Uid × Intent)) → AllMute (tolds_again telling)
again_mute telling = all_flat IsMute (λ (e : Uid × Intent). tell_all e.1.root true ((e.0, ending.Commit) ∷ []) e.1.nodes) telling
    (λ e. all_map IsMute (tell e.1.root true ((e.0, ending.Commit) ∷ [])) e.1.nodes (λ n. (refl, refl)))

-- a restart neither answers nor asks
pub restart_mute : (hd : Header) (k inc : ℕ) (d : Disk) → AllMute (restart_outs hd k inc d)
restart_mute hd k inc d = restart_said IsMute (λ b. tt) hd k inc d tt tt (again_mute d.intents) (λ u. (refl, refl)) (λ w. (refl, refl))

silent_of : (es : List Effect) → AllMute es → AllSilent es
silent_of [] m = tt
silent_of (Say b ∷ es) m = (tt, silent_of es m.1)
silent_of (Do w ∷ es) m = (tt, silent_of es m.1)
silent_of (Send to p ∷ es) m = ((m.0).0, silent_of es m.1)

pub restart_silent : (hd : Header) (k inc : ℕ) (d : Disk) → AllSilent (restart_outs hd k inc d)
restart_silent hd k inc d = silent_of (restart_outs hd k inc d) (restart_mute hd k inc d)

pub silent_both : (es fs : List Effect) → AllSilent es → AllSilent fs → AllSilent (es ++ fs)
silent_both es fs a b = all_append IsSilent es fs a b

-- a tick, where what is asked again isn't an answer
pub tick_silent : (n : Node) (t : Parts) → AllSilent (let r = again_all t.coord.doings t.coord in r.outs) → AllSilent (tick_outs n t)
tick_silent n t asked =
    let r = again_all t.coord.doings t.coord in
    silent_both (r.outs ++ tolds_again t.coord.telling) (map query_about (holders n.disk t))
    (silent_both r.outs (tolds_again t.coord.telling) asked (silent_of (tolds_again t.coord.telling) (again_mute t.coord.telling)))
    (silent_of (map query_about (holders n.disk t)) (all_map IsMute query_about (holders n.disk t) (λ u. (refl, refl))))

-- what a coordinator sends answers nobody
pub true_silent : (c : Coord) (outs : List Effect) → AreTrue c outs → AllSilent outs
true_silent c [] all = tt
true_silent c (Send to m ∷ es) all = (no_answer m (let z = all.0 in z.plain), true_silent c es all.1)
true_silent c (Say b ∷ es) all = (tt, true_silent c es all.1)
true_silent c (Do w ∷ es) all = (tt, true_silent c es all.1)

-- so no message of it is an answer
pub silent_in : (outs : List Effect) → AllSilent outs → (to : ℕ) (m : Message) → list.In (Send to m) outs → answers m ≡ None
silent_in (e ∷ es) all to m (inl same) = subst IsSilent same all.0
silent_in (e ∷ es) all to m (inr i) = silent_in es all.1 to m i
silent_in [] all to m i = absurd i
