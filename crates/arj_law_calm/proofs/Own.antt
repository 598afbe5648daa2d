-- In a readable journal each action has a Uid of its own.
use Rattle.std.proofs.Common.{◌≡◌, ◌++◌, ℕ, List, [], ◌∷◌, length, not, nat_lt, nat_le, Bool, true, false, cond, Option, Some, None}
use Rattle.std.proofs.Common.{is_some, refl, sym, ◌∙◌, ap, subst}
use Rattle.std.proofs.lemmas.List.{append-nil, append_assoc}
use Rattle.std.specs.List.{AllByRecursion}
use Rattle.std.specs.Option.{option_map}
use Rattle.arj_base.proofs.Uids.{uid_is, uid_same}
use Rattle.arj_base.specs.Uid.{uid_eq}
use Rattle.arj_journal.specs.declared.body.Body.{Body}
use Rattle.arj_journal.specs.declared.body.Body.TheVariants as body
use Rattle.arj_journal.specs.declared.body.Line.{Line}
use Rattle.arj_journal.specs.declared.header.Header.{Header}
use Rattle.arj_law.proofs.Common.{all_map}
use Rattle.arj_model.proofs.Read.{acts-append}
use Rattle.arj_model.specs.Actions.{Act, Begun, acts, acts_after, path, upwards}
use Rattle.arj_reading.specs.Readable.{Readable, act_by, begin_rule, body_rule, broken_from, broken_or, has_parent, known, line_rule, met}
use Rattle.arj_reading.specs.Readable.{named, named_as}
use Rattle.arj_reading.specs.Readable.{or_else, unless}
use Rattle.arj_reading.specs.declared.limits.TheConstants.{PATH_ACTIONS}
use Rattle.arj_reading.specs.declared.rule.Broken.{Broken}
use Rattle.arj_reading.specs.declared.rule.Rule.{Rule}
use Rattle.arj_reading.specs.declared.rule.Rule.TheVariants as rule
use Rattle.arj_text.specs.Label.{name}

-- no older action has the Uid of one
abbrev pub HaveNewUids : List Act → Type 0
HaveNewUids [] = Unit {0}
HaveNewUids (a ∷ older) = (act_by older a.uid ≡ None) × HaveNewUids older

neither : (a b : Option Rule) → or_else a b ≡ None → (a ≡ None) × (b ≡ None)
neither None b e = (refl, e)
neither (Some r) b e = absurd (cc e)

none_broken : (at : ℕ) (r : Option Rule) (behind : Option Broken) → broken_or at r behind ≡ None → (r ≡ None) × (behind ≡ None)
none_broken at None behind e = (refl, e)
none_broken at (Some r) behind e = absurd (cc e)

kept : (t : Bool) (r : Rule) → unless t r ≡ None → t ≡ true
kept true r e = refl
kept false r e = absurd (cc e)

none_of : (o : Option Act) → not (is_some (option_map named_as o)) ≡ true → o ≡ None
none_of None e = refl
none_of (Some a) e = absurd (cc e)

new_uid : (older : List Act) (b : Begun) → begin_rule older b ≡ None → act_by older b.uid ≡ None
new_uid older b e =
    let behind : Option Rule = or_else (unless (has_parent older b.kind b.parent) rule.Parent)
    (unless (nat_lt (length (upwards b.parent b.kind (path older))) PATH_ACTIONS) rule.Depth) in
    let one = neither (unless (not (is_some (named older b.label))) rule.NewLabel)
    (or_else (unless (not (is_some (known older b.uid))) rule.NewUid) behind) e in
    let two = neither (unless (not (is_some (known older b.uid))) rule.NewUid) behind one.1 in
    none_of (act_by older b.uid) (kept (not (is_some (known older b.uid))) rule.NewUid two.0)

one_more : (header : Header) (before : List Line) (b : Body) → body_rule header (met before) b ≡ None → HaveNewUids (acts before) →
    HaveNewUids (acts_after (acts before) b)
one_more header before (body.Began l k u p) e new =
    (new_uid (acts before) (record { label = name l; kind = k; uid = u; parent = option_map name p }) e, new)
one_more header before b e new = new

along : (header : Header) (before rest : List Line) (last : ℕ) → HaveNewUids (acts before) → broken_from header before last rest ≡ None →
    HaveNewUids (acts (before ++ rest))
along header before [] last new e = subst (λ ls. HaveNewUids (acts ls)) (sym (append-nil before)) new
along header before (line ∷ rest) last new e =
    let both : (line_rule header (met before) last line ≡ None) × (broken_from header (before ++ line ∷ []) line.event rest ≡ None) =
    none_broken (length before) (line_rule header (met before) last line) (broken_from header (before ++ line ∷ []) line.event rest) e in
    let keeps = neither (unless (nat_le last line.event) rule.Order) (body_rule header (met before) line.body) both.0 in
    subst (λ ls. HaveNewUids (acts ls)) (append_assoc before (line ∷ []) rest)
    (along header (before ++ line ∷ []) rest line.event
    (subst HaveNewUids (sym (acts-append [] before line)) (one_more header before line.body keeps.1 new)) both.1)

pub new_uids : (header : Header) (lines : List Line) → Readable header lines → HaveNewUids (acts lines)
new_uids header lines readable = along header [] lines 0 tt readable

-- each is the one that has its Uid
pub own_acts : (us : List Act) → HaveNewUids us → AllByRecursion (λ (a : Act). act_by us a.uid ≡ Some a) us
own_acts [] new = tt
own_acts (a ∷ older) new = (
  (λ i. cond (uid_same a.uid i) (Some a) (act_by older a.uid)),
  all_map (λ (b : Act). act_by older b.uid ≡ Some b) (λ (b : Act). act_by (a ∷ older) b.uid ≡ Some b) later older (own_acts older new.1),
)
  where
    later : (b : Act) → act_by older b.uid ≡ Some b → act_by (a ∷ older) b.uid ≡ Some b
    later b own = by (uid_eq a.uid b.uid) refl
      where
        by : (t : Bool) → uid_eq a.uid b.uid ≡ t → cond t (Some a) (act_by older b.uid) ≡ Some b
        by true e = let none : None ≡ Some b = sym new.0 ∙ ap (act_by older) (uid_is a.uid b.uid e) ∙ own in absurd (cc none)
        by false e = own
