-- A coordinator hears an answer, takes an input, or sends again: what holds of naming's confirmations goes on, where it decides nothing,
-- and where it decides a top that naming confirmed.
use Rattle.arj_law_parts.proofs.Words
use Words.{◌≡◌, ◌⊎◌, ◌≤◌, ◌∙◌, ◌++◌, ℕ, true, List, [], ◌∷◌, Option, Some, None, refl, sym, ap, subst, inl, inr, ⊎_elim, arith, ⊤}
use Words.{AllByRecursion, Ask, Body, Head, Line, Message, Uid, asks, actor, answers, Coord, Disk, Do, Effect, Say, Send, is_prepared}
use Words.{Parts, Node, Post, Seen}
use Words.body
use Words.ending
use Words.message
use Words.role
use Rattle.arj_law_promise.proofs.Terms
use Terms.{AreTrue, is_of_coord, no_answer, is_quiet_line, up, Up, Walks, walks_both, book, is_decided, asks_part, AllSeek, acked_in}
use Terms.{some_is}
use Rattle.arj_law_lock_view.specs.facts.Parted.{IsAskedNow}
use Rattle.arj_law_promise.proofs.settling
use settling.{Calms.AllCalm, Calms.SaysNow, Cores.IsDone, Cores.Recorded, Knowns.committing, Knowns.open_undone, Milds.here_is}
use settling.{Milds.recorded_back, Milds.the_node}
use settling.ConfirmKnown.{AllKnown, IsNaming, its_inc}
use settling.ConfirmSteps.{IsSound, node_still, records_stay, step_confirms}
use settling.Confirms.{AsksMarked, IsConfirming, Remembers, none_not, same_memory}
use settling.Stills.{line_fits, no_stops, no_work}
use settling.Trails.{Down, FitsSo, LineMild, UpBy, Went, mild_decides, quiet_mild, went}

-- ---- lines and messages

-- nothing that was prepared ends by it
abbrev pub IsNoDone : Body → Type 0
IsNoDone (body.Done n u r e) = ⊥
IsNoDone b = ⊤

-- who is decided by the line is one of these, and nothing ends by it
abbrev pub SaysSo : (Uid → Type 0) → Seen → Body → Type 0
SaysSo U M b = LineMild U (let B = book M.lines in B.acts) b × IsNoDone b

pub quiet_so : (U : Uid → Type 0) (M : Seen) (b : Body) → is_quiet_line b ≡ true → SaysSo U M b
quiet_so U M b q = (quiet_mild U (let B = book M.lines in B.acts) b q, quiet b q)
  where
    quiet : (c : Body) → is_quiet_line c ≡ true → IsNoDone c
    quiet (body.Done n u r e) is = absurd (cc is)
    quiet c is = tt

pub milds : (U : Uid → Type 0) (M : Seen) (ls : List Line) → AllByRecursion (λ (l : Line). SaysSo U M l.body) ls →
    AllByRecursion (λ (l : Line). LineMild U (let B = book M.lines in B.acts) l.body) ls
milds U M [] all = tt
milds U M (l ∷ ls) all = (all.0.0, milds U M ls all.1)

pub none_done : (U : Uid → Type 0) (M : Seen) (ls before : List Line) (line : Line) (behind : List Line) (n : ℕ) (u : Uid) → AllByRecursion
    (λ (l : Line). SaysSo U M l.body) ls → ls ≡ before ++ line ∷ behind → line.body ≡ body.Done n u role.Names ending.Abort → ⊥
none_done U M [] [] line behind n u all is says_it = cc is
none_done U M [] (b ∷ before) line behind n u all is says_it = cc is
none_done U M (l ∷ ls) [] line behind n u all is says_it = let one : l ≡ line = cc is in
    subst IsNoDone (ap (λ (z : Line). z.body) one ∙ says_it) all.0.1
none_done U M (l ∷ ls) (b ∷ before) line behind n u all is says_it = let rest : ls ≡ before ++ line ∷ behind = cc is in
    none_done U M ls before line behind n u all.1 rest says_it

-- a coordinator answers nothing and acknowledges nothing
abbrev pub IsUnanswering : Message → Type 0
IsUnanswering m = (answers m ≡ None) × (acked_in m ≡ None)

coord_unanswering : (m : Message) → is_of_coord m ≡ true → IsUnanswering m
coord_unanswering m own = (no_answer m own, acks m own)
  where
    acks : (z : Message) → is_of_coord z ≡ true → acked_in z ≡ None
    acks (message.Acked z) is = absurd (cc is)
    acks z is = refl

abbrev pub SendsBare : Effect → Type 0
SendsBare (Send to m) = IsUnanswering m
SendsBare (Say b) = ⊤
SendsBare (Do w) = ⊤

pub true_bare : (c : Coord) (outs : List Effect) → AreTrue c outs → AllByRecursion SendsBare outs
true_bare c [] all = tt
true_bare c (Say b ∷ es) all = (tt, true_bare c es all.1)
true_bare c (Do w ∷ es) all = (tt, true_bare c es all.1)
true_bare c (Send to m ∷ es) all = (coord_unanswering m (let z = all.0 in z.plain), true_bare c es all.1)

-- an acknowledgement, by its message
pub acked_message : (m : Message) (u : Uid) → acked_in m ≡ Some u → m ≡ message.Acked (record { act = u })
acked_message (message.Acked m) u is = ap (λ w. message.Acked (record { act = w })) (some_is is)
acked_message m u is = absurd (cc is)

module _ (k : ℕ) (d : Disk) (t : Parts) (M : Seen) (right : IsNaming (up k d t M)) (e : ℕ) where
  abbrev Start : Seen
  Start = up k d t M

  pub here : Start.nodes k ≡ Some (the_node k d (Some t))
  here = here_is k d (Some t) M

  -- naming wasn't asked about it by marks
  abbrev pub Unmarked : Uid → Type 0
  Unmarked u = AsksMarked M.sent u → ⊥

  -- the memory of naming beside another coordinator
  pub memory_on : (v : Parts) → v.naming ≡ t.naming → (let c = v.coord in let z = c.tree in z.inc)
      ≡ (let c = t.coord in let z = c.tree in z.inc) → (live : Option Parts) → (live ≡ None) ⊎ (live ≡ Some v) → Remembers (Some t) live
  memory_on v same inc live either_way s n up_it named = ⊎_elim
      (λ none. none_not (sym none ∙ up_it))
      (λ is. let one : v ≡ s = some_is (sym is ∙ up_it) in (
        t,
        n,
        refl,
        sym same ∙ ap (λ (z : Parts). z.naming) one ∙ named,
        same_memory n,
        ap (λ (z : Parts). let c = z.coord in let q = c.tree in q.inc) (sym one) ∙ inc,
      )) either_way

  -- ---- a step that decides nobody of whom naming was asked by marks

  module _ (v : Parts) (same : v.naming ≡ t.naming) where
    abbrev Sends : Post → Type 0
    Sends p =
        ((h : Head) (a : Ask) → asks p.message ≡ Some (h, a) → asks_part a ≡ true → IsAskedNow v.coord p.to h a) × IsUnanswering p.message

    abbrev Is : Disk → Type 0
    Is c = c ≡ d

    abbrev Fits : Effect → Type 0
    Fits = FitsSo k M (SaysSo Unmarked M) Sends (quiet_so Unmarked M) (tt, tt) Is

    calm_fits : (outs : List Effect) → AllCalm Unmarked t.coord v.coord outs → AllSeek v.coord outs → AllByRecursion SendsBare outs →
        AllByRecursion Fits outs
    calm_fits [] calm seeks bare = tt
    calm_fits (Say b ∷ es) calm seeks bare =
        ((line_fits Unmarked k d t M right.0.0.0 b calm.0, no_end b calm.0), calm_fits es calm.1 seeks.1 bare.1)
      where
        no_end : (z : Body) → SaysNow Unmarked t.coord z → IsNoDone z
        no_end (body.Done n u r f) so = absurd so
        no_end z so = tt
    calm_fits (Send to m ∷ es) calm seeks bare = ((seeks.0, bare.0), calm_fits es calm.1 seeks.1 bare.1)
    calm_fits (Do w ∷ es) calm seeks bare = absurd calm.0

    module _ (c : Disk) (N : Seen) (known : AllKnown (up k c v N))
        (w : Went k M (SaysSo Unmarked M) Sends (UpBy k M (SaysSo Unmarked M) Sends (quiet_so Unmarked M) (tt, tt) Is v) (up k c v N)) where
      abbrev Late : Seen
      Late = up k c v N

      end_here : Late.nodes k ≡ Some (the_node k c (Some v))
      end_here = here_is k c (Some v) N

      disk_is : w.disk ≡ d
      disk_is = w.fits.0

      -- this disk's incarnation is the coordinator's
      inc : (let q = v.coord in let z = q.tree in z.inc) ≡ (let q = t.coord in let z = q.tree in z.inc)
      inc = its_inc Late known k (the_node k c (Some v)) v end_here refl ∙ ap (λ (z : Node). let q = z.disk in q.inc) (some_is
          (sym end_here ∙ w.here)) ∙ ap (λ (z : Disk). z.inc) disk_is ∙ sym (its_inc Start right.0 k (the_node k d (Some t)) t here refl)

      decides : (u : Uid) → is_decided (book Late.lines) u ≡ true → IsDone Start u ⊎ IsSound M Late u
      decides u on = ⊎_elim (λ old. inl (inl old)) (λ new. inr (λ asked. absurd (new asked))) (mild_decides Unmarked M.lines w.more
          (milds Unmarked M w.more w.said_so) u (subst (λ ls. is_decided (book ls) u ≡ true) w.lines on))

      recorded : (u : Uid) → Recorded Late u → Recorded Start u ⊎ IsSound M Late u
      recorded u r = inl (recorded_back k d (Some t) M (SaysSo Unmarked M) Sends _ Late w (ap (λ (z : Disk). z.intents) disk_is) u r)

      -- who asks now is open
      asks_open : (p : Post) → Sends p → (h : Head) (a : Ask) → asks p.message ≡ Some (h, a) → asks_part a ≡ true →
          IsDone Late (actor h.path) → ⊥
      asks_open p so h a is part done =
          let n = so.0 h a is part in
          let b = committing Late known.0.0 k (the_node k c (Some v)) v end_here refl (actor h.path) (n.doing, n.machine, n.works, n.now) in
          open_undone Late known.0.0 k (the_node k c (Some v)) v end_here refl (actor h.path) b.0 b.1 b.2 done

      still_confirms : IsConfirming Late
      still_confirms = step_confirms k d (Some t) M (SaysSo Unmarked M) Sends _ Late w right.1 (record {
        decides = decides;
        recorded = recorded;
        stays = records_stay k d (Some t) M (SaysSo Unmarked M) Sends _ Late w (ap (λ (z : Disk). z.intents) disk_is);
        clean = λ before line behind n u is says_it on. none_done Unmarked M w.more before line behind n u w.said_so is says_it;
        asks = asks_open;
        apart = λ other p so a is. none_not (sym so.1.0 ∙ is);
        here = λ one q. node_still k d (Some t) M (SaysSo Unmarked M) Sends _ Late w decides recorded asks_open (λ p so. so.1.1)
            (λ p so a is. none_not (sym so.1.0 ∙ is)) (low d.inc (let z = w.disk in z.inc) (ap (λ (z : Disk). z.inc) disk_is))
            (λ u on. ap (λ (z : Disk). is_prepared u z.names) (sym disk_is) ∙ on) (memory_on v same inc w.live (inr w.fits.1)) q;
      })
        where
          low : (a b : ℕ) → b ≡ a → a ≤ b
          low a b is = omega (arith, is)

    pub coord_walk : (outs : List Effect) → AllCalm (λ u. AsksMarked M.sent u → ⊥) t.coord v.coord outs → AllSeek v.coord outs →
        AllByRecursion SendsBare outs → Walks AllKnown e k outs (Up AllKnown k v) d M → Walks IsNaming e k outs (Up IsNaming k v) d M
    coord_walk outs calm seeks bare known =
        no_stops (λ N. AllKnown N × Went k M (SaysSo Unmarked M) Sends (Down k M (SaysSo Unmarked M) Sends (quiet_so Unmarked M) (tt, tt)
        Is) N) IsNaming e k outs (no_work Unmarked t.coord v.coord outs calm) d M (λ c N h. (h.0, still_confirms c N h.0 h.1))
        (walks_both AllKnown (Went k M (SaysSo Unmarked M) Sends (Down k M (SaysSo Unmarked M) Sends (quiet_so Unmarked M) (tt, tt) Is)) e k
        outs (Up AllKnown k v) (λ c N. Went k M (SaysSo Unmarked M) Sends
        (UpBy k M (SaysSo Unmarked M) Sends (quiet_so Unmarked M) (tt, tt) Is v) (up k c v N)) d M known
        (went k M (SaysSo Unmarked M) Sends (quiet_so Unmarked M) (tt, tt) Is e v outs d (calm_fits outs calm seeks bare) refl))
