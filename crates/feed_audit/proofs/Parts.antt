-- The connections of a record so far.
use Rattle.std.proofs.Common.{◌≡◌, refl, sym, ap, ◌∙◌, subst, ℕ, ◌+◌, min, Bool, true, false, true≢false, List, [], ◌∷◌, ◌++◌, append_assoc, arith, Option, None}
use Rattle.std.specs.Prelude.{IfSome}
use Rattle.feed_settings.specs.Limits.{Limits}
use Rattle.feed_node.specs.Mirroring.{MirrorState, new_mirror}
use Rattle.feed_records.specs.Connections.{Cut, Recorded, part, AreConnectionsOf}
use Rattle.feed_records.specs.Parting.{body_of, most}
use Rattle.feed_records.proofs.Connecting.{GoesOnWith, EndsWith, cut_somehow}
use Rattle.feed_audit.specs.Reaching.{Reached, IsPartVerdict, FailsInBody, faults_behind}
use Rattle.feed_audit.specs.Records.{AgreesBy, AgreesAt, AllAgree, Reaches, RecordAgrees, RecordStrays, FailsInPart, FailsToAuditRecord, FaultsInFeed, BeginsInChunks, HasOtherToken, start_of}
use Rattle.feed_audit.specs.States.{IsStateOf}
use Rattle.feed_audit.specs.declared.verdict.AuditFault.{AuditFault}
use Rattle.feed_audit.specs.declared.verdict.AuditFault.TheVariants as fault
use Rattle.feed_audit.specs.declared.verdict.Stray.{Stray}
use Rattle.feed_audit.specs.declared.verdict.Verdict.TheVariants as verdict
use Rattle.feed_audit.proofs.Verdicts.{shown_after}

module _ (limits : Limits) (primary : List ℕ) where
  agree_more : (parts : List Recorded) (all here : ℕ) (at : Recorded) (old between new : MirrorState) → AllAgree limits primary old parts all between → AgreesAt limits primary between at here new
      → AllAgree limits primary old (parts ++ at ∷ []) (all + here) new
  agree_more [] all here at old between new (none, same) k =
      (here, 0, new, subst (λ m. AgreesAt limits primary m at here new) same k, (refl, refl), (let e : all ≡ 0 = none in omega arith))
  agree_more (p ∷ ps) all here at old between new (a, b, m, agrees, more, is) k =
      (a, b + here, m, agrees, agree_more ps b here at m between new more k, omega arith)

  agrees_by : (is_feed : Bool) (at : Recorded) (here : ℕ) (old new : MirrorState) → IsPartVerdict limits primary is_feed old at (verdict.Agrees here) new
      → AgreesBy limits primary is_feed old at here new
  agrees_by true at here old new v = v
  agrees_by false at here old new v = let none = v.0 in (cc, v.1)

  pub agrees_at : (at : Recorded) (here : ℕ) (old new : MirrorState) → IsPartVerdict limits primary at.is_feed old at (verdict.Agrees here) new → AgreesAt limits primary old at here new
  agrees_at at here old new v = agrees_by at.is_feed at here old new v

  -- what is shown then is one of the primary's, as it was before
  shown_then : (is_feed : Bool) (at : Recorded) (here : ℕ) (old new : MirrorState) → IfSome old.node.published (IsStateOf limits primary)
      → IsPartVerdict limits primary is_feed old at (verdict.Agrees here) new → IfSome new.node.published (IsStateOf limits primary)
  shown_then true at here old new before f = shown_after (start_of limits primary old at.since) primary at.body here f.agrees new f.left
  shown_then false at here old new before v = subst (λ m. IfSome m.node.published (IsStateOf limits primary)) (sym v.1) before

  limits_then : (is_feed : Bool) (at : Recorded) (here : ℕ) (old new : MirrorState) → old.limits ≡ limits
      → IsPartVerdict limits primary is_feed old at (verdict.Agrees here) new → new.limits ≡ limits
  limits_then true at here old new same f = ap (λ (m : MirrorState). m.limits) f.left
  limits_then false at here old new same v = ap (λ (m : MirrorState). m.limits) v.1 ∙ same

  carried_by : (text body : List ℕ) (is_feed : Bool) (since : Option (List ℕ)) (old new : MirrorState) (here : ℕ) → body_of text ≡ body
      → ((at : ℕ) → IsPartVerdict limits primary is_feed old (part at is_feed since body) (verdict.Agrees here) new)
      → (at : ℕ) → IsPartVerdict limits primary is_feed old (part at is_feed since (body_of text)) (verdict.Agrees here) new
  carried_by text body is_feed since old new here e v at = subst (λ b. IsPartVerdict limits primary is_feed old (part at is_feed since b) (verdict.Agrees here) new) (sym e) (v at)

  pub reached_none : (screen : List ℕ) (mirror : MirrorState) → mirror ≡ new_mirror limits → Reached limits primary screen screen 0 0 true None mirror
  reached_none screen mirror is = record {
    parts = [];
    at = 0;
    before_is = refl;
    all = 0;
    agree = (refl, is);
    limits_are = ap (λ m. m.limits) is;
    shown = subst (λ m. IfSome m.node.published (IsStateOf limits primary)) (sym is) tt;
    counted = refl;
    cut = λ later c. c;
  }

  pub reached_more : (screen text body : List ℕ) (before states here new_states new_before count : ℕ) (is_feed feed : Bool) (since token : Option (List ℕ)) (behind : List ℕ) (old new : MirrorState)
      → Reached limits primary screen text before states is_feed since old → body_of text ≡ body
      → ((at : ℕ) → IsPartVerdict limits primary is_feed old (part at is_feed since body) (verdict.Agrees here) new)
      → GoesOnWith since text count feed token behind → new_states ≡ min (states + here) most
      → new_before ≡ min (before + count) most → Reached limits primary screen behind new_before new_states feed token new
  reached_more screen text body before states here new_states new_before count is_feed feed since token behind old new r body_is v' g states_are before_is =
      let at = part r.at is_feed since (body_of text) in
      let v = carried_by text body is_feed since old new here body_is v' in
      record {
        parts = r.parts ++ at ∷ [];
        at = r.at + g.size;
        before_is = let a = r.before_is in let b = g.counted in omega arith;
        all = r.all + here;
        agree = agree_more r.parts r.all here at (new_mirror limits) old new r.agree (agrees_at at here old new (v r.at));
        limits_are = limits_then is_feed at here old new r.limits_are (v r.at);
        shown = shown_then is_feed at here old new r.shown (v r.at);
        counted = let a = r.counted in omega arith;
        cut = λ later c. subst (AreConnectionsOf screen) (sym (append_assoc r.parts (at ∷ []) later)) (r.cut (at ∷ later) (g.on r.at is_feed later c));
      }

  pub record_agrees : (screen text body : List ℕ) (before states here new_states : ℕ) (is_feed : Bool) (since : Option (List ℕ)) (old new : MirrorState)
      → Reached limits primary screen text before states is_feed since old → body_of text ≡ body
      → ((at : ℕ) → IsPartVerdict limits primary is_feed old (part at is_feed since body) (verdict.Agrees here) new)
      → EndsWith text → new_states ≡ min (states + here) most → RecordAgrees limits primary screen new_states
  record_agrees screen text body before states here new_states is_feed since old new r body_is v' ends states_are =
      let at = part r.at is_feed since (body_of text) in
      let v = carried_by text body is_feed since old new here body_is v' in
      record {
        parts = r.parts ++ at ∷ [];
        cut = r.cut (at ∷ []) (ends r.at is_feed since);
        all = r.all + here;
        mirror = new;
        agree = agree_more r.parts r.all here at (new_mirror limits) old new r.agree (agrees_at at here old new (v r.at));
        counted = let a = r.counted in omega arith;
      }

  -- ---- and the first that doesn't

  reaches : (screen text body : List ℕ) (before states : ℕ) (since : Option (List ℕ)) (mirror : MirrorState) (r : Reached limits primary screen text before states true since mirror)
      → body_of text ≡ body → Reaches limits primary screen (part r.at true since body) r.all mirror
  reaches screen text body before states since mirror r body_is =
      let c = subst (λ b. (later : List Recorded) × Cut r.at true since text (part r.at true since b ∷ later)) body_is (cut_somehow r.at true since text) in
      record { earlier = r.parts; later = c.0; cut = r.cut (part r.at true since body ∷ c.0) c.1; agree = r.agree; is_feed = refl }

  pub strays_at : (screen text body : List ℕ) (before states : ℕ) (is_feed : Bool) (since : Option (List ℕ)) (old new : MirrorState) (its_own stray : Stray)
      → Reached limits primary screen text before states is_feed since old → body_of text ≡ body
      → ((at : ℕ) → IsPartVerdict limits primary is_feed old (part at is_feed since body) (verdict.Strays its_own) new)
      → stray.token ≡ its_own.token → stray.difference ≡ its_own.difference → stray.before ≡ min (states + its_own.before) most → stray.line ≡ min (before + its_own.line) most
      → RecordStrays limits primary screen stray
  strays_at screen text body before states false since old new its_own stray r body_is v token difference before_is line_is = let none = v 0 in absurd (cc)
  strays_at screen text body before states true since old new its_own stray r body_is v token difference before_is line_is = record {
    at = part r.at true since body;
    states = r.all;
    mirror = old;
    reaches = reaches screen text body before states since old r body_is;
    may = (v r.at).0;
    its_own = its_own;
    strays = (v r.at).1;
    token = token;
    difference = difference;
    before = let a = r.counted in omega arith;
    line = let a = r.before_is in omega arith;
  }

  fails_part : (screen text body : List ℕ) (before states its_own : ℕ) (since : Option (List ℕ)) (mirror : MirrorState) (P : MirrorState → Recorded → ℕ → Type 0)
      (r : Reached limits primary screen text before states true since mirror) → body_of text ≡ body
      → P mirror (part r.at true since body) its_own → FailsInPart limits primary screen (min (before + its_own) most) P
  fails_part screen text body before states its_own since mirror P r body_is fails = record {
    at = part r.at true since body;
    states = r.all;
    mirror = mirror;
    reaches = reaches screen text body before states since mirror r body_is;
    its_own = its_own;
    fails = fails;
    counted = let a = r.before_is in omega arith;
  }

  fails_feed : (screen text body : List ℕ) (before states : ℕ) (since : Option (List ℕ)) (mirror : MirrorState) (why : AuditFault)
      (r : Reached limits primary screen text before states true since mirror) → body_of text ≡ body
      → FailsInBody limits primary mirror (part r.at true since body) why → FailsToAuditRecord limits primary screen (faults_behind why before)
  fails_feed screen text body before states since mirror (fault.Primary line why) r body_is f = record {
    at = part r.at true since body;
    states = r.all;
    mirror = mirror;
    reaches = reaches screen text body before states since mirror r body_is;
    fails = f;
  }
  fails_feed screen text body before states since mirror (fault.Screen line why) r body_is f =
      fails_part screen text body before states line since mirror (FaultsInFeed limits primary why) r body_is f
  fails_feed screen text body before states since mirror (fault.Chunked line) r body_is f =
      fails_part screen text body before states line since mirror (BeginsInChunks limits primary) r body_is f
  fails_feed screen text body before states since mirror (fault.OtherToken line) r body_is f =
      fails_part screen text body before states line since mirror (HasOtherToken limits primary) r body_is f
  fails_feed screen text body before states since mirror (fault.PrimaryUnread why) r body_is f = f
  fails_feed screen text body before states since mirror (fault.ScreenUnread why) r body_is f = f
  fails_feed screen text body before states since mirror fault.Memory r body_is f = tt

  pub fails_at : (screen text body : List ℕ) (before states : ℕ) (is_feed : Bool) (since : Option (List ℕ)) (mirror : MirrorState) (why : AuditFault)
      → Reached limits primary screen text before states is_feed since mirror → body_of text ≡ body
      → is_feed ≡ true → ((at : ℕ) → FailsInBody limits primary mirror (part at is_feed since body) why) → FailsToAuditRecord limits primary screen (faults_behind why before)
  fails_at screen text body before states false since mirror why r body_is feed f = absurd (true≢false (sym feed))
  fails_at screen text body before states true since mirror why r body_is feed f = fails_feed screen text body before states since mirror why r body_is (f r.at)
