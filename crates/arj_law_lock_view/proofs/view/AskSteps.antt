-- Requests are nothing to the machine, and show what their calls stand on.
use Rattle.arj_law_parts.proofs.Words
use Words.{◌<◌, ◌≡◌, ◌≢◌, ◌⊎◌, ◌∙◌, ◌++◌, ◌*◌, ℕ, List, [], ◌∷◌, Bool, true, false, cond, refl, sym, ap, subst, ⊎_elim, arith, unwrap_or}
use Words.{list_any, Binding, End, Op, Path, Uid, uids_of, writes, actor, top_of, again_now, asks_node, is_invoke_ask, At, AtActivate}
use Words.{AtBind, AtInvoke, AtLoad, AtNote, Goal, Run, ask_at, next_ask, next_node, node_at, plan_of, waiting, Calling, Committing, Coord}
use Words.{Idle, Keeping, Now, Root, Went, keeping_of, no_root, on_root, root_at, same_went, with_went, at_number, binding_number, ends_of}
use Words.{root_of}
use Words.ask
use Rattle.arj_law_lock_view.proofs.Terms
use Terms.{Act, In, Run as MachineRun, State, Holds, Acts, ShowsAsk, IsReached, Codes, state_code, IsServedBy, IsNamedSo, SeesCoord}
use Terms.{SeesRoot, SeesStep}
use Terms.machine
use Rattle.arj_law_lock_view.proofs.view
use view.EverSteps.{Ever, ever, reached_kept}
use view.RootSteps.{root_else, root_here, same_root}
use Rattle.arj_law_lock_view.specs.view.Asks.{AsksAreNothing, CommitsAskOnly, RequestsAreShown, RequestsStayShown, TicksAreNothing}

-- ---- what requests show

-- a call's request is shown by its step
shows_step : (act : Acts) (code : Codes) (p : Path) (x number : ℕ) (o : Op) (ends : List (Uid × End)) (kp : Keeping) (S : State) (a : At) →
    SeesStep act code (record { path = p; x = x; goal = Run o; req = number; at = a }) o kp S a →
    ShowsAsk act code (record { x = x; path = p; number = number; node = node_at a }) S (ask_at x (Run o) ends a)
shows_step act code p x number o ends kp S (AtBind avoid) h = tt
shows_step act code p x number o ends kp S (AtLoad k n rest) h = tt
shows_step act code p x number o ends kp S (AtActivate k st) h = (h.1.1, h.2)
shows_step act code p x number o ends kp S (AtNote k i) h = (h.1.0, h.2)
shows_step act code p x number o ends kp S (AtInvoke k i) h = (h.1, h.2, h.3)

pub requests_are_shown : RequestsAreShown
requests_are_shown act code x c u d s o ends S sees works calling about goal =
    subst (λ (y : ℕ).
    ShowsAsk act code (record { x = y; path = s.path; number = s.req; node = node_at s.at }) S (ask_at s.x s.goal ends s.at)) about
    (subst (λ (g : Goal).
    ShowsAsk act code (record { x = s.x; path = s.path; number = s.req; node = node_at s.at }) S (ask_at s.x g ends s.at)) (sym goal)
    (shows_step act code s.path s.x s.req o ends (keeping_of x (root_at (root_of s.path) c)) S s.at
    (of_parts s.at (sees.calls u d s o works calling about goal))))
  where
    of_parts : (a : At) → SeesStep act code s o (keeping_of x (root_at (root_of s.path) c)) S a → SeesStep act code
        (record { path = s.path; x = s.x; goal = Run o; req = s.req; at = s.at }) o (keeping_of x (root_at (root_of s.path) c)) S a
    of_parts (AtBind avoid) h = h
    of_parts (AtLoad k n rest) h = h
    of_parts (AtActivate k st) h = h
    of_parts (AtNote k i) h = h
    of_parts (AtInvoke k i) h = h

-- what is shown of a binding stays
module _ (S T : State) (reached : IsReached S) (run : MachineRun S T) where
  now_on : Ever S T
  now_on = ever reached run

  its : Holds S
  its = let k = reached_kept S reached in k.holds

  pub server_stays : (b : Binding) (n : ℕ) → binding_number b < S.naming.bound → IsServedBy S b n → IsServedBy T b n
  server_stays b n below served = now_on.server (binding_number b) below ∙ served

  pub named_stays : (b : Binding) (i : ℕ) → IsNamedSo S b i → IsNamedSo T b i
  named_stays b i named = let k = now_on.named (binding_number b) named.0 in (k.0, k.1 ∙ named.1)

  pub vote_stays : (m : Act) (b : Binding) (i n : ℕ) → IsServedBy S b n × In (machine.Vote m (binding_number b) i) S.net →
      IsServedBy T b n × In (machine.Vote m (binding_number b) i) T.net
  vote_stays m b i n h = (
    server_stays b n (let k = its.mail (machine.Vote m (binding_number b) i) h.1 in let q = its.bindings (binding_number b) k.1 in
        q.below) h.0,
    now_on.sent (machine.Vote m (binding_number b) i) h.1,
  )

pub requests_stay_shown : RequestsStayShown
requests_stay_shown act code o (ask.Activate b st) S T reached run h =
    let sent = machine.Activate (binding_number b) (state_code act code st) in (
      server_stays S T reached run b o.node (let k = its S T reached run in let q = k.mail sent h.1 in q.1) h.0,
      (let k = now_on S T reached run in k.sent sent h.1),
    )
requests_stay_shown act code o (ask.Record y b i g) S T reached run h = (
  (let k = now_on S T reached run in k.sent (machine.Made (act (top_of o.path)) (binding_number b)) h.0),
  named_stays S T reached run b i h.1,
)
requests_stay_shown act code o (ask.Invoke y b i ends op) S T reached run h = (
  server_stays S T reached run b o.node (let k = its S T reached run in let q = k.bindings (binding_number b) h.1.0 in q.below) h.0,
  named_stays S T reached run b i h.1,
  (let k = now_on S T reached run in
      k.sent (machine.Invoke (record { act = act (actor o.path); number = o.number; binding = binding_number b; write = writes op })) h.2),
)
requests_stay_shown act code o (ask.Vote i ties ends) S T reached run h =
    λ b there. vote_stays S T reached run (act (actor o.path)) b i o.node (h b there)
requests_stay_shown act code o (ask.Confirm grants excluded included) S T reached run h =
    λ g there. (let k = now_on S T reached run in k.sent (machine.Confirm (act (actor o.path)) (g * 4294967296)) (h g there))
requests_stay_shown act code o (ask.Bind y include avoid) S T reached run h = tt
requests_stay_shown act code o (ask.Load y) S T reached run h = tt
requests_stay_shown act code o (ask.Prepare states) S T reached run h = tt

-- ---- what roots take note of

module _ (w : Went) (r : Root) where
  by_went : (P : Root → Type 0) → P r → P (record r { went = (let q = r in q.went) ++ w ∷ [] }) → P (with_went w r)
  by_went P old new = by (list_any (same_went w) (let q = r in q.went))
    where
      by : (t : Bool) → P (cond t r (record r { went = (let q = r in q.went) ++ w ∷ [] }))
      by true = old
      by false = new

module _ (act : Acts) (code : Codes) (x : ℕ) (rt : Uid) (w : Went) (c : Coord) (S : State) (sees : SeesCoord act code x c S) where
  abbrev e : Coord
  e = on_root rt (with_went w) c

  -- a root is as it was, or has one note more
  root_cases : (P : Root → Type 0) (v : Uid) → P (root_at v c) →
      P (record (root_at v c) { went = (let q = root_at v c in q.went) ++ w ∷ [] }) → P (root_at v e)
  root_cases P v same noted = ⊎_elim
      (λ (is : v.num ≡ rt.num). subst P (sym (by_num e is ∙ root_here rt (with_went w) c ∙ ap (with_went w) (sym (by_num c is))))
      (by_went w (root_at v c) P same noted))
      (λ (apart : v.num ≢ rt.num). subst P (sym (root_else rt (with_went w) c v apart)) same)
      (number_cases v.num rt.num)
    where
      number_cases : (m n : ℕ) → (m ≡ n) ⊎ (m ≢ n)
      number_cases m n = grind arith

      by_num : (z : Coord) → v.num ≡ rt.num → root_at v z ≡ root_at rt z
      by_num z is = ap (λ (n : ℕ). unwrap_or (at_number n z.roots) no_root) is

  went_seen : SeesCoord act code x e S
  went_seen = record {
    actions = (let a = sees.actions in record { each = a.each; opened = a.opened; quiet = a.quiet; others = a.others });
    roots = λ v b there own. (let old = sees.roots v b there own in root_cases (λ (r : Root). SeesRoot act x v r c.tree S) v old (same_root
        act x v (root_at v c) (record (root_at v c) { went = (let q = root_at v c in q.went) ++ w ∷ [] }) c.tree S refl refl refl old));
    calls = λ v k s o works calling about goal. (let old = sees.calls v k s o works calling about goal in
        root_cases (λ (r : Root). SeesStep act code s o (keeping_of x r) S s.at) (root_of s.path) old old);
    plain = sees.plain;
  }

pub asks_are_nothing : AsksAreNothing
asks_are_nothing act code x p number [] c S sees = sees
asks_are_nothing act code x p number (a ∷ rest) c S sees = asks_are_nothing act code x p number rest (let t = asks_node p number a c in
    t.part) S (went_seen act code x (root_of p) (record { path = uids_of p; node = a.0; invoke = is_invoke_ask a.1 }) c S sees)

pub commits_ask_only : CommitsAskOnly
commits_ask_only act code x m c S sees =
    asks_are_nothing act code x (let v = plan_of m in v.path) (let v = plan_of m in v.req) (waiting m) c S sees

again_one : (act : Acts) (code : Codes) (x : ℕ) (n : Now) (c : Coord) (S : State) → SeesCoord act code x c S →
    SeesCoord act code x (let t = again_now c n in t.part) S
again_one act code x Idle c S sees = sees
again_one act code x (Calling s) c S sees = went_seen act code x (root_of s.path)
    (record { path = uids_of s.path; node = next_node s; invoke = is_invoke_ask (next_ask (ends_of (root_of s.path) c.tree) s) }) c S sees
again_one act code x (Committing m) c S sees = commits_ask_only act code x m c S sees

pub ticks_are_nothing : TicksAreNothing
ticks_are_nothing act code x [] c S sees = sees
ticks_are_nothing act code x (d ∷ ds) c S sees =
    ticks_are_nothing act code x ds (let t = again_now c d.now in t.part) S (again_one act code x d.now c S sees)
