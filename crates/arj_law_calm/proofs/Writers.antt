-- Who wrote what a journal leaves is an action that began in it.
use Rattle.std.proofs.Common.{◌≡◌, ◌<◌, ◌+◌, ◌==◌, ◌&&◌, ℕ, List, [], ◌∷◌, length, if◌then◌else◌, Bool, true, false, cond}
use Rattle.std.proofs.Common.{Option, Some, None, refl, sym, ◌∙◌, ap, subst}
use Rattle.std.specs.List.{AllByRecursion, list_all}
use Rattle.arj_base.specs.Uid.{nobody}
use Rattle.arj_base.specs.declared.uid.Uid.{Uid}
use Rattle.arj_journal.specs.declared.body.Body.{Body}
use Rattle.arj_journal.specs.declared.body.Body.TheVariants as body
use Rattle.arj_journal.specs.declared.body.Line.{Line}
use Rattle.arj_law.proofs.{Common.all_filter_map, Common.all_both, JoinedCalls.path_all, JoinedCalls.read_all}
use Rattle.arj_law.proofs.{JoinedCalls.top_all}
use Rattle.arj_law.proofs.{Last.all_filtered, Moves.all_arrange}
use Rattle.arj_model.specs.Actions.{Act, Begun, Placed, acts, acts_after, acts_from, begun_of, committed, has_end, is_committed, numbered}
use Rattle.arj_model.specs.Actions.{path, recovered}
use Rattle.arj_model.specs.Actions.{chain_in, top_in}
use Rattle.arj_model.specs.Calls.{Call, Said, Top, call_of, committed_calls, kept, kept_in, said, said_of, tops}
use Rattle.arj_model.specs.Last.{changer_from, uid_of_id, writer_from, writes_of}
use Rattle.arj_model.specs.Serial.{serial_calls, serial_less, writes_on}
use Rattle.arj_reading.specs.Readable.{act_by}
use Rattle.arj_law_calm.proofs.Own.{HaveNewUids, own_acts}
use Rattle.arj_text.specs.Label.{name}

-- ---- actions

-- what is so of each action that a line says began is so of each action
pub acts_all : (P : Uid → Type 0) (us : List Act) (ls : List Line) → AllByRecursion (λ (a : Act). P a.uid) us →
    AllByRecursion (λ (l : Line). (b : Begun) → begun_of l.body ≡ Some b → P b.uid) ls →
    AllByRecursion (λ (a : Act). P a.uid) (acts_from us ls)
acts_all P us [] so all = so
acts_all P us (l ∷ ls) so all = acts_all P (acts_after us l.body) ls (by (begun_of l.body) all.0) all.1
  where
    by : (o : Option Begun) → ((b : Begun) → o ≡ Some b → P b.uid) → AllByRecursion (λ (a : Act). P a.uid) (numbered us o)
    by None its = so
    by (Some b) its = (its b refl, so)

-- ---- calls

-- a call counts for a top among these actions, of which this is so
pub record IsByTop (us : List Act) (P : Uid → Type 0) (c : Call) : Type 0 where
  pub top : Act
  pub own : act_by us top.uid ≡ Some top
  pub holds : P top.uid
  pub id : c.top ≡ top.id
  pub writer : c.writer ≡ top.uid

module _ (lines : List Line) (P : Uid → Type 0) (well : HaveNewUids (acts lines)) (all : AllByRecursion (λ (a : Act). P a.uid)
    (acts lines)) where
  abbrev IsOne : Act → Type 0
  IsOne a = (act_by (acts lines) a.uid ≡ Some a) × P a.uid

  ones : AllByRecursion IsOne (acts lines)
  ones = all_both (λ (a : Act). act_by (acts lines) a.uid ≡ Some a) (λ (a : Act). P a.uid) (acts lines) (own_acts (acts lines) well) all

  of_said : (us : List Act) (b : Body) (s : Said) → AllByRecursion IsOne us → said_of us b ≡ Some s → AllByRecursion IsOne s.path
  of_said us (body.Ok l x op answer) s so e =
      let same : record { path = path us (name l); x = x; op = op; answer = answer } ≡ s = cc e in
      subst (λ (z : Said). AllByRecursion IsOne z.path) same (path_all IsOne us (name l) so)
  of_said us b s so e = absurd (cc e)

  kept_by : (s : Placed Said) (c : Call) → AllByRecursion IsOne (let i = s.it in i.path) →
      kept (committed lines) (recovered lines) s ≡ Some c →
      IsByTop (acts lines) P c
  kept_by s c so e = by (top_in s.it.path) refl e
    where
      by : (o : Option Act) → top_in s.it.path ≡ o → kept_in (committed lines) (recovered lines) s o ≡ Some c → IsByTop (acts lines) P c
      by None is f = absurd (cc f)
      by (Some top) is f = from (list_all (λ (a : Act). has_end (committed lines) a.id) (chain_in s.it.path)
          && is_committed (committed lines) (recovered lines) top) f
        where
          from : (b : Bool) → cond b (Some (call_of s top)) None ≡ Some c → IsByTop (acts lines) P c
          from true g = let same : call_of s top ≡ c = cc g in
              let one = top_all IsOne s.it.path top so is in
              subst (IsByTop (acts lines) P) same (record { top = top; own = one.0; holds = one.1; id = refl; writer = refl })
          from false g = absurd (cc g)

  pub calls_by : AllByRecursion (IsByTop (acts lines) P) (committed_calls lines)
  calls_by = all_filter_map (λ (s : Placed Said). (s.at < 0 + length lines) × AllByRecursion IsOne (let i = s.it in i.path))
      (IsByTop (acts lines) P) (kept (committed lines) (recovered lines)) (λ s c h e. kept_by s c h.1 e) (said lines)
      (read_all IsOne (λ (i : Said). AllByRecursion IsOne i.path) said_of of_said [] 0 lines ones)

  -- of the writes on an object
  pub writes_by : (x : ℕ) → AllByRecursion (IsByTop (acts lines) P) (writes_of lines x)
  writes_by x = all_filtered (IsByTop (acts lines) P) (writes_on x) (serial_calls lines)
      (all_arrange (IsByTop (acts lines) P) (serial_less (tops lines)) (committed_calls lines) calls_by)

  -- who wrote the last of these is so
  pub writer_so : (u : Uid) (cs : List Call) → P u → AllByRecursion (IsByTop (acts lines) P) cs → P (writer_from u cs)
  writer_so u [] so by = so
  writer_so u (c ∷ cs) so by = writer_so c.writer cs (let b = by.0 in subst P (sym b.writer) b.holds) by.1

  -- two of them by one writer are of one top
  pub one_top : (c d : Call) → IsByTop (acts lines) P c → IsByTop (acts lines) P d → d.writer ≡ c.writer → d.top ≡ c.top
  one_top c d a b same =
      let are : Some b.top ≡ Some a.top =
      sym b.own ∙ ap (act_by (acts lines)) (sym b.writer ∙ same ∙ a.writer) ∙ a.own in
      let one : b.top ≡ a.top = cc are in
      b.id ∙ ap (λ (z : Act). z.id) one ∙ sym a.id

  -- ---- entries

  uid_so : (us : List Act) (i : ℕ) → P nobody → AllByRecursion (λ (a : Act). P a.uid) us → P (uid_of_id us i)
  uid_so [] i none so = none
  uid_so (a ∷ us) i none so = by (a.id == i) (uid_so us i none so.1)
    where
      by : (b : Bool) → P (uid_of_id us i) → P (if b then a.uid else uid_of_id us i)
      by true ih = so.0
      by false ih = ih

  -- who changed an entry last is so
  pub changer_so : (u : Uid) (ts : List Top) → P nobody → P u → P (changer_from (acts lines) u ts)
  changer_so u [] none so = so
  changer_so u (t ∷ ts) none so = changer_so (uid_of_id (acts lines) t.id) ts none (uid_so (acts lines) t.id none all)
