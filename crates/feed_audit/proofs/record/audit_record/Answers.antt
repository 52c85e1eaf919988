use Rattle.std.proofs.Common.{rules, refl, sym, ap, subst, ◌∙◌, true}
use Rattle.std.specs.Prelude.{option_map}
use Rattle.feed_records.specs.Connections.{part}
use Rattle.feed_audit.specs.Reaching.{IsPartVerdict, Reached}
use Rattle.feed_records.specs.Parting.{body_of, since_of}
use Rattle.feed_audit.specs.Records.{FailsToAuditRecord}
use Rattle.feed_records.proofs.Looking.{end_of}
use Rattle.feed_records.proofs.Connecting.{goes_on, ends_with}
use Rattle.feed_node.specs.Mirroring.{MirrorState}
use Rattle.feed_audit.proofs.GoingOn.{beside_on}
use Rattle.feed_audit.proofs.Parts.{reached_none, reached_more, record_agrees, strays_at, fails_at}
use Rattle.feed_audit.proofs.record.audit_record.Goals as goal

pub connections-init : goal.connections-init
connections-init g c = record {
  reached = λ text all is at beside. (
    all,
    at,
    subst (λ f. Reached c.args.limits text all all 0 0 f (since_of c.feed-opened.result) c.args.sides.now.theirs) (sym c.feed-opened.ensures.feed)
        (subst (λ s. Reached c.args.limits text all all 0 0 true s c.args.sides.now.theirs) (sym c.feed-opened.ensures.since)
        (reached_none c.args.limits text all _ c.requires)),
  );
  beside = λ text all is at beside. beside;
  limits = ap (λ (m : MirrorState). m.limits) c.requires;
  whole = refl;
}

pub returns-in-Err-clause-err : goal.returns-in-Err-clause-err
returns-in-Err-clause-err g c text all is at beside =
    let r = c.connections.invariant.reached text all is at beside in
    let now = c.connections.invariant.beside text all is at beside in
    let left = ap g.L.Lines.left c.begin.ensures.source ∙ r.1 in
    subst (FailsToAuditRecord c.args.limits text all) (sym c.fault_behind.ensures)
    (fails_at c.args.limits text all r.0 (body_of r.0) _ _ _ _ _ c.in-Err.fault r.2 refl c.in-Err.ensures.feed
    (c.in-Err.ensures.err text (body_of r.0) (c.connections.invariant.whole ∙ is) (ap (option_map body_of) left) now))

pub returns-in-Ok-Strays-clause-ok : goal.returns-in-Ok-Strays-clause-ok
returns-in-Ok-Strays-clause-ok g c text all is at beside =
    let r = c.connections.invariant.reached text all is at beside in
    let now = c.connections.invariant.beside text all is at beside in
    let left = ap g.L.Lines.left c.begin.ensures.source ∙ r.1 in
    strays_at c.args.limits text all r.0 (body_of r.0) _ _ _ _ _ _ c.in-Ok-Strays.stray c.stray_behind.result r.2 refl
    (λ before. subst (λ v. IsPartVerdict c.args.limits text c.connections.opened.is_feed c.connections.sides.theirs
    (part before c.connections.opened.is_feed (since_of c.connections.opened) (body_of r.0)) v c.audit_connection.new.sides.theirs) c.in-Ok-Strays.field-0-is
    (c.in-Ok-Strays.ensures.ok text (body_of r.0) (c.connections.invariant.whole ∙ is) (ap (option_map body_of) left) now before))
    c.stray_behind.ensures.token c.stray_behind.ensures.difference c.stray_behind.ensures.before c.stray_behind.ensures.line

pub returns-in-Ok-false-clause-ok : goal.returns-in-Ok-false-clause-ok
returns-in-Ok-false-clause-ok g c text all is at beside =
    let r = c.connections.invariant.reached text all is at beside in
    let now = c.connections.invariant.beside text all is at beside in
    let left = ap g.L.Lines.left c.begin.ensures.source ∙ r.1 in
    let known = c.connections.invariant.whole ∙ is in
    let end = end_of c.begin.new.self.lines r.0 in
    let beyond = c.in-Ok-Agrees.ensures.beyond text (body_of r.0) known (ap (option_map body_of) left) now end (ap (option_map (end_of c.begin.new.self.lines)) left) in
    record_agrees c.args.limits text all r.0 (body_of r.0) _ _ c.in-Ok-Agrees.more _ _ _ _ _ r.2 refl
    (λ before. subst (λ v. IsPartVerdict c.args.limits text c.connections.opened.is_feed c.connections.sides.theirs
    (part before c.connections.opened.is_feed (since_of c.connections.opened) (body_of r.0)) v c.audit_connection.new.sides.theirs) c.in-Ok-Agrees.field-0-is
    (c.in-Ok-Agrees.ensures.ok text (body_of r.0) known (ap (option_map body_of) left) now before))
    (ends_with r.0 end refl (c.in-Ok-false.ensures.last end beyond c.in-Ok-false.field-0-test)) c.saturating_add-states.ensures

pub connections-preserved : goal.connections-preserved
connections-preserved g c = record {
  reached = λ text all is at beside.
      let r = c.connections.invariant.reached text all is at beside in
      let now = c.connections.invariant.beside text all is at beside in
      let now = c.connections.invariant.beside text all is at beside in
      let left = ap g.L.Lines.left c.begin.ensures.source ∙ r.1 in
      let known = c.connections.invariant.whole ∙ is in
      let end = end_of c.begin.new.self.lines r.0 in
      let beyond = c.in-Ok-Agrees.ensures.beyond text (body_of r.0) known (ap (option_map body_of) left) now end (ap (option_map (end_of c.begin.new.self.lines)) left) in
      let next = c.in-Ok-true.ensures.next end beyond c.in-Ok-true.field-0-test in (
        next.0,
        next.1,
        reached_more c.args.limits text all r.0 (body_of r.0) _ _ c.in-Ok-Agrees.more _ _ c.go_on.new.self.lines _ _ _ _ next.0 _ _ r.2 refl
            (λ before. subst (λ v. IsPartVerdict c.args.limits text c.connections.opened.is_feed c.connections.sides.theirs
            (part before c.connections.opened.is_feed (since_of c.connections.opened) (body_of r.0)) v c.audit_connection.new.sides.theirs) c.in-Ok-Agrees.field-0-is
            (c.in-Ok-Agrees.ensures.ok text (body_of r.0) known (ap (option_map body_of) left) now before))
            (goes_on r.0 next.0 end c.connections.opened c.go_on.new.opened c.go_on.new.self.lines (ap (λ n. end_of n r.0) (sym c.begin.ensures.lines)) next.2)
            c.saturating_add-states.ensures (search rules),
      );
  beside = λ text all is at beside.
      let r = c.connections.invariant.reached text all is at beside in
      let now = c.connections.invariant.beside text all is at beside in
      let left = ap g.L.Lines.left c.begin.ensures.source ∙ r.1 in
      beside_on _ c.in-Ok-Agrees.more c.in-Ok-Agrees.field-0-is (c.in-Ok-Agrees.ensures.beside text (body_of r.0) (c.connections.invariant.whole ∙ is) (ap (option_map body_of) left) now);
  limits = c.in-Ok-Agrees.ensures.limits;
  whole = c.audit_connection.ensures.whole ∙ c.connections.invariant.whole;
}

pub returns-in-Ok-false-clause-beside : goal.returns-in-Ok-false-clause-beside
returns-in-Ok-false-clause-beside g c text all is at beside =
    let r = c.connections.invariant.reached text all is at beside in
    let now = c.connections.invariant.beside text all is at beside in
    let left = ap g.L.Lines.left c.begin.ensures.source ∙ r.1 in
    beside_on _ c.in-Ok-Agrees.more c.in-Ok-Agrees.field-0-is (c.in-Ok-Agrees.ensures.beside text (body_of r.0) (c.connections.invariant.whole ∙ is) (ap (option_map body_of) left) now)
