-- A connection on the mirror that read those before it, or on a new one.
use Rattle.std.proofs.Common.{◌≡◌, ◌≢◌, refl, sym, subst, ℕ, List, [], Bool, true, false, true≢false}
use Rattle.feed_settings.specs.Limits.{Limits}
use Rattle.feed_node.specs.Mirroring.{MirrorState, mirror_after, present_opening}
use Rattle.feed_node.specs.Reading.{Opening}
use Rattle.feed_audit.specs.Answers.{AgreementFrom, StrayingFrom, PrimaryFaults, ScreenFaults, IsVerdictFrom, IsVerdictOn, IfAgrees, FailsFrom, begun_by}
use Rattle.feed_records.specs.Connections.{Recorded, is_chunked}
use Rattle.feed_audit.specs.Reaching.{IsFeedVerdict, IsPartVerdict, FailsInBody}
use Rattle.feed_audit.specs.Records.{FailsToAuditRecord, MayGoOn, opening_of}
use Rattle.feed_audit.specs.States.{Start}
use Rattle.feed_audit.specs.Stops.{IsUnreadScreen}
use Rattle.feed_audit.specs.declared.verdict.AuditFault.{AuditFault}
use Rattle.feed_audit.specs.declared.verdict.AuditFault.TheVariants as fault
use Rattle.feed_audit.specs.declared.verdict.Verdict.{Verdict}
use Rattle.feed_audit.specs.declared.verdict.Verdict.TheVariants as verdict

-- what is answered of a text alone
pub verdict_of : (start : Start) (primary screen : List ℕ) (mirror : MirrorState) (v : Verdict) → IsVerdictOn start primary screen v mirror → IsVerdictFrom start primary screen v
verdict_of start primary screen mirror (verdict.Agrees n) h = h.0
verdict_of start primary screen mirror (verdict.Strays s) h = h

abbrev start_at : Limits → Opening → Start
start_at limits opening = record { limits = limits; opening = opening }

module _ (limits : Limits) (primary : List ℕ) (old begun : MirrorState) (at : Recorded) (same : present_opening begun ≡ opening_of old at.since) (may : MayGoOn old at.since) where
  -- what is answered of a feed
  pub feed_verdict : (new : MirrorState) (v : Verdict) → IsVerdictOn (begun_by limits begun) primary at.body v new → IsFeedVerdict limits primary old at v new
  feed_verdict new (verdict.Agrees n) h =
      let a = subst (λ o. (a : AgreementFrom (start_at limits o) primary at.body n) × (new ≡ mirror_after limits o a.notes [])) same h in
      record { may = may; agrees = a.0; left = a.1 }
  feed_verdict new (verdict.Strays s) h = (may, subst (λ o. StrayingFrom (start_at limits o) primary at.body s) same h)

  pub feed_fails : (why : AuditFault) → FailsFrom (begun_by limits begun) primary at.body why → FailsInBody limits primary old at why
  feed_fails (fault.Primary line why) f = record { may = may; faults = subst (λ o. PrimaryFaults (start_at limits o) primary at.body line why) same f }
  feed_fails (fault.Screen line why) f = record { may = may; faults = subst (λ o. ScreenFaults (start_at limits o) primary at.body line why) same f }
  feed_fails (fault.Chunked line) f = absurd f
  feed_fails (fault.OtherToken line) f = absurd f
  feed_fails (fault.PrimaryUnread why) f = f
  feed_fails (fault.ScreenUnread why) f = f
  feed_fails fault.Memory f = tt

-- a feed that can't go on
pub can_not_go_on : (limits : Limits) (primary : List ℕ) (old : MirrorState) (at : Recorded) (why : AuditFault)
    → (why ≢ fault.Memory → (why ≡ fault.OtherToken 1) × ¬ (MayGoOn old at.since)) → FailsInBody limits primary old at why
can_not_go_on limits primary old at (fault.Primary line why) f = let h = (f (λ e. absurd (cc))).0 in absurd (cc)
can_not_go_on limits primary old at (fault.Screen line why) f = let h = (f (λ e. absurd (cc))).0 in absurd (cc)
can_not_go_on limits primary old at (fault.Chunked line) f = let h = (f (λ e. absurd (cc))).0 in absurd (cc)
can_not_go_on limits primary old at (fault.OtherToken line) f =
    let h = f (λ e. absurd (cc)) in
    let first = h.0 in
    record { other = h.1; first = cc }
can_not_go_on limits primary old at (fault.PrimaryUnread why) f = let h = (f (λ e. absurd (cc))).0 in absurd (cc)
can_not_go_on limits primary old at (fault.ScreenUnread why) f = let h = (f (λ e. absurd (cc))).0 in absurd (cc)
can_not_go_on limits primary old at fault.Memory f = tt

-- ---- a connection

pub feed_part : (limits : Limits) (primary : List ℕ) (is_feed : Bool) (old new : MirrorState) (at : Recorded) (v : Verdict) → is_feed ≡ true → IsFeedVerdict limits primary old at v new
    → IsPartVerdict limits primary is_feed old at v new
feed_part limits primary true old new at v e h = h
feed_part limits primary false old new at v e h = absurd (true≢false (sym e))

pub in_chunks : (limits : Limits) (primary : List ℕ) (old : MirrorState) (at : Recorded) → is_chunked at.body ≡ true → FailsInBody limits primary old at (fault.Chunked 1)
in_chunks limits primary old at e = record { chunked = e; first = refl }

-- a screen's record that can't be read on
pub unread_part : (limits : Limits) (primary : List ℕ) (old : MirrorState) (at : Recorded) (why : AuditFault) → IsUnreadScreen why → FailsInBody limits primary old at why
unread_part limits primary old at (fault.Primary line why) h = absurd h
unread_part limits primary old at (fault.Screen line why) h = absurd h
unread_part limits primary old at (fault.Chunked line) h = absurd h
unread_part limits primary old at (fault.OtherToken line) h = absurd h
unread_part limits primary old at (fault.PrimaryUnread why) h = absurd h
unread_part limits primary old at (fault.ScreenUnread why) h = h
unread_part limits primary old at fault.Memory h = tt

pub unread_record : (limits : Limits) (primary screen : List ℕ) (why : AuditFault) → IsUnreadScreen why → FailsToAuditRecord limits primary screen why
unread_record limits primary screen (fault.Primary line why) h = absurd h
unread_record limits primary screen (fault.Screen line why) h = absurd h
unread_record limits primary screen (fault.Chunked line) h = absurd h
unread_record limits primary screen (fault.OtherToken line) h = absurd h
unread_record limits primary screen (fault.PrimaryUnread why) h = absurd h
unread_record limits primary screen (fault.ScreenUnread why) h = h
unread_record limits primary screen fault.Memory h = tt

-- what is so where a text agrees
pub beside_on : {P : Type 0} (v : Verdict) (n : ℕ) → v ≡ verdict.Agrees n → IfAgrees v P → P
beside_on {P} v n is h = subst (λ v. IfAgrees v P) is h
