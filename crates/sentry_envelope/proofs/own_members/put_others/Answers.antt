use Rattle.std.proofs.Common.{◌≡◌, List, Bool, subst, ◌∙◌, sym, ap, String, Global}
use Rattle.sentry_framing.specs.Json.{Puts}
use Rattle.sentry_plain.specs.Texts.{Bytes, by_bytes}
use Rattle.sentry_plain.specs.Values.{Data}
use Rattle.sentry_plain.specs.ValueView.{data_of}
use Rattle.sentry_plain.specs.declared.value.Value.{Value}
use Rattle.sentry_envelope.specs.Members.{put_other, put_others}
use Rattle.sentry_envelope.specs.Values.{value_json}
use Rattle.sentry_envelope.proofs.Members.{Leads, leads_all, leads_on, leads_none}
use Rattle.sentry_envelope.proofs.own_members.put_others.Goals as goal

-- entries as plain data
abbrev shown : List (String Global × Value) → List (Bytes × Data)
shown es = by_bytes data_of es

pub loop-key-init : goal.loop-key-init
loop-key-init g c =
    let own = g.R.OwnMembers.own c.args.owner.now in
    let is : shown c.into_iter-key-iterator.result ≡ c.args.values.now =
    ap shown c.into_iter-key-iterator.ensures.into_iter_gives ∙ c.iter-key-items.ensures.rest in
    subst (λ (es : List (Bytes × Data)). Leads c.args.out.now c.args.out.now (put_others own value_json es) (put_others own value_json c.args.values.now))
    (sym is) (leads_all _ _)

pub loop-key-preserved : goal.loop-key-preserved
loop-key-preserved g c =
    let own = g.R.OwnMembers.own c.args.owner.now in
    let here = subst (λ (es : List (String Global × Value)). Leads c.args.out.now c.loop-key.out (put_others own value_json (shown es)) (put_others own value_json c.args.values.now))
    c.in-Some.ensures.steps c.loop-key.invariant in
    let json = value_json (data_of c.in-Some.value.now) in
    let by_name = subst (λ (b : Bool). Puts c.loop-key.out c.put_other.new.out (put_other b c.as_str-name.result.now json)) c.has_own.ensures c.in_ok-put_other.ensures in
    let put = subst (λ (key : Bytes). Puts c.loop-key.out c.put_other.new.out (put_other (own key) key json)) c.as_str-name.ensures.value by_name in
    leads_on {left = put_others own value_json (shown c.next.new.self)} here put

pub returns : goal.returns
returns g c =
    let own = g.R.OwnMembers.own c.args.owner.now in
    leads_none (subst (λ (es : List (String Global × Value)). Leads c.args.out.now c.loop-key.out (put_others own value_json (shown es)) (put_others own value_json c.args.values.now))
    c.in-None.ensures.steps.0 c.loop-key.invariant)
