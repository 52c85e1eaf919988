-- Lemmas on what a connection came to: what is said of each end, said of the connection.
use Rattle.std.proofs.Common.{◌≡◌, ◌⊎◌, inl, inr, sym, ap, ◌∙◌, subst, ℕ, List, []}
use Rattle.std.specs.Prelude.{Result, Ok, Err}
use Rattle.std.specs.Io.KnownBytes.{Appends, Consumes, IsAtEnd}
use Rattle.feed_node.specs.States.{NodeState}
use Rattle.feed_answer.specs.Answered.{AnswerParts, AnswersTo}
use Rattle.feed_node.specs.declared.primary.CommitFault.{CommitFault}
use Rattle.feed_http.specs.declared.fault.EngineFault.{EngineFault}
use Rattle.feed_http.specs.declared.fault.EngineFault.TheVariants as fault
use Rattle.feed_http.specs.declared.fault.Served.{Served}
use Rattle.feed_http.specs.declared.service.Service.{Service}
use Rattle.feed_http.specs.Device.{RoseAtMost}
use Rattle.feed_http.specs.Exchange.{Exchange, Wrote, gave_on, FailuresAreTold, reads_failed}
use Rattle.feed_http.specs.HeadReading.{IsReadAsNeeded, IsEnough, HeadFails}
use Rattle.feed_http.specs.Sending.{WroteAnswer, WroteAll, WroteAllLive}
use Rattle.feed_http.specs.Serving.{ServedSo, ServesOnce, BrokeBehindHead}
use Rattle.feed_http.specs.Live.{Intake, HasAnswer, WroteLive, WroteRefused, ServedLive, ServesLive}
use Rattle.feed_http.specs.Writing.{WritesBy, WritesAll}
use Rattle.feed_http.proofs.OpenedLemmas.{opened_at, takes_all}

-- what was written on a connection
abbrev pub written_on : Exchange → Wrote
written_on spoken = record {
  old = spoken.written_old;
  new = spoken.written_new;
  failed_old = spoken.failed_writes_old;
  failed_new = spoken.failed_writes_new;
}

-- where no read failed, what failed is a write
told_writes : {A : Type 0} (spoken : Exchange) (All : A → Type 0) (Part : Type 0)
    (Refused : CommitFault → Type 0)
    → spoken.failed_reads_new ≡ spoken.failed_reads_old → (r : Result A EngineFault)
    → WritesBy (written_on spoken) All Part Refused r → FailuresAreTold spoken r
told_writes spoken All Part Refused reads (Ok value) (all, writes) = (reads, writes)
told_writes spoken All Part Refused reads (Err fault.Write) (part, writes) = (reads, writes)
told_writes spoken All Part Refused reads (Err fault.Memory) (part, writes) = (reads, writes)
told_writes spoken All Part Refused reads (Err (fault.Commit why)) (denied, writes) =
    (reads, writes)
told_writes spoken All Part Refused reads (Err fault.Read) (none, writes) = absurd none
told_writes spoken All Part Refused reads (Err fault.TooManyReads) (none, writes) = absurd none
told_writes spoken All Part Refused reads (Err (fault.Follow why)) (none, writes) = absurd none

-- where nothing was written, what failed is a read of the head
told_reads : (spoken : Exchange) (most_reads : ℕ) (head : List ℕ) (why : EngineFault)
    → HeadFails most_reads (gave_on spoken) head why
    → spoken.failed_reads_new ≡ reads_failed spoken.failed_reads_old why
    → spoken.failed_writes_new ≡ spoken.failed_writes_old
    → FailuresAreTold {A = Served} spoken (Err why)
told_reads spoken most_reads head fault.Read fails reads writes = (reads, writes)
told_reads spoken most_reads head fault.TooManyReads fails reads writes = (reads, writes)
told_reads spoken most_reads head fault.Memory fails reads writes = (reads, writes)
told_reads spoken most_reads head fault.Write none reads writes = absurd none
told_reads spoken most_reads head (fault.Commit why) none reads writes = absurd none
told_reads spoken most_reads head (fault.Follow why) none reads writes = absurd none

module _ (service : Service) (node : NodeState) (spoken : Exchange) where
  abbrev IsBrokenBehind : Type 0
  IsBrokenBehind =
      BrokeBehindHead service.contest.now node service.framing service.back spoken.source
      spoken.left spoken.written_old spoken.written_new

  unread_so : (head : List ℕ) (why : EngineFault) → IsReadAsNeeded head
      → Appends spoken.written_old spoken.written_new []
      → HeadFails service.most_reads (gave_on spoken) head why
      → ServedSo service node spoken (Err why)
  unread_so head fault.Read needed nothing (given, still) = (head, given, needed, still, nothing)
  unread_so head fault.TooManyReads needed nothing (given, still, rose) =
      ((head, given, needed, still, nothing), rose)
  unread_so head fault.Memory needed nothing h = inl nothing
  unread_so head fault.Write needed nothing none = absurd none
  unread_so head (fault.Commit why) needed nothing none = absurd none
  unread_so head (fault.Follow why) needed nothing none = absurd none

  -- the head was not read, or there was no memory to answer it, and nothing was written
  pub was_unread : (head : List ℕ) {r : Result Served EngineFault} {told why : EngineFault}
      → r ≡ Err told → told ≡ why → IsReadAsNeeded head
      → Appends spoken.written_old spoken.written_new []
      → HeadFails service.most_reads (gave_on spoken) head why
      → spoken.failed_reads_new ≡ reads_failed spoken.failed_reads_old why
      → spoken.failed_writes_new ≡ spoken.failed_writes_old
      → RoseAtMost spoken.reads_old spoken.reads_new service.most_reads
      → ServesOnce service node spoken r
  was_unread head {r} {told} {why} is kept needed nothing fails failed quiet reads =
      subst (ServesOnce service node spoken) (sym (is ∙ ap Err kept))
      (record {
        came = unread_so head why needed nothing fails;
        reads = reads;
        failures = told_reads spoken service.most_reads head why fails failed quiet;
      })

  -- what came of writing a node's answer to what was read
  module _ (head : List ℕ) (answer : AnswerParts) (given : Consumes spoken.source spoken.left head)
      (needed : IsReadAsNeeded head) (enough : IsEnough head ⊎ IsAtEnd spoken.left)
      (answers : AnswersTo head service.contest.now node service.framing service.back answer) where
    wrote_part : WroteAnswer node answer spoken.written_old spoken.written_new → IsBrokenBehind
    wrote_part (text, served, sends, prefix) = (
      head,
      text,
      served,
      given,
      needed,
      enough,
      record { answer = answer; answers = answers; sends = sends },
      prefix,
    )

    answered_so : (r : Result Served EngineFault)
        → WritesAll (written_on spoken) (WroteAll node answer (written_on spoken))
        (WroteAnswer node answer spoken.written_old spoken.written_new) r
        → ServedSo service node spoken r
    answered_so (Ok served) (all, quiet) =
        let (text, sends, wrote) = all in (
          head,
          text,
          given,
          needed,
          enough,
          record { answer = answer; answers = answers; sends = sends },
          wrote,
        )
    answered_so (Err fault.Write) (part, failed) = wrote_part part
    answered_so (Err fault.Memory) (part, quiet) = inr (wrote_part part)
    answered_so (Err fault.Read) (none, quiet) = absurd none
    answered_so (Err fault.TooManyReads) (none, quiet) = absurd none
    answered_so (Err (fault.Commit why)) (none, quiet) = absurd none
    answered_so (Err (fault.Follow why)) (none, quiet) = absurd none

    pub was_served : RoseAtMost spoken.reads_old spoken.reads_new service.most_reads
        → spoken.failed_reads_new ≡ spoken.failed_reads_old → (r : Result Served EngineFault)
        → WritesAll (written_on spoken) (WroteAll node answer (written_on spoken))
        (WroteAnswer node answer spoken.written_old spoken.written_new) r
        → ServesOnce service node spoken r
    was_served reads unfailed r w = record {
      came = answered_so r w;
      reads = reads;
      failures = told_writes spoken _ _ _ unfailed r w;
    }

module _ (turn : ℕ) (service : Service) (spoken : Exchange) (start now : Intake) where
  -- the head was answered like this
  abbrev Answers : AnswerParts → Type 0
  Answers =
      HasAnswer service.contest.now start.primary.node service.framing service.back spoken.source
      spoken.left

  -- that was written and taken in part
  abbrev IsStopped : Type 0
  IsStopped =
      (answer : AnswerParts) × Answers answer
      × WroteLive turn start answer now spoken.written_old spoken.written_new

  unread_live : (head : List ℕ) (why : EngineFault) → IsReadAsNeeded head → now ≡ start
      → Appends spoken.written_old spoken.written_new []
      → HeadFails service.most_reads (gave_on spoken) head why
      → ServedLive turn service spoken start
      (Err why) now
  unread_live head fault.Read needed same nothing (given, still) =
      ((head, given, needed, still, nothing), same)
  unread_live head fault.TooManyReads needed same nothing (given, still, rose) =
      ((head, given, needed, still, nothing), same, rose)
  unread_live head fault.Memory needed same nothing h = inl (nothing, same)
  unread_live head fault.Write needed same nothing none = absurd none
  unread_live head (fault.Commit why) needed same nothing none = absurd none
  unread_live head (fault.Follow why) needed same nothing none = absurd none

  -- the head was not read, or there was no memory to answer it, and no batch was taken
  pub was_not_heard : (head : List ℕ) {r : Result Served EngineFault} {told why : EngineFault}
      → r ≡ Err told → told ≡ why → IsReadAsNeeded head → now ≡ start
      → Appends spoken.written_old spoken.written_new []
      → HeadFails service.most_reads (gave_on spoken) head why
      → spoken.failed_reads_new ≡ reads_failed spoken.failed_reads_old why
      → spoken.failed_writes_new ≡ spoken.failed_writes_old
      → RoseAtMost spoken.reads_old spoken.reads_new service.most_reads
      → ServesLive turn service spoken start r now
  was_not_heard head {r} {told} {why} is kept needed same nothing fails failed quiet reads =
      subst (λ s. ServesLive turn service spoken start s now) (sym (is ∙ ap Err kept))
      (record {
        came = unread_live head why needed same nothing fails;
        reads = reads;
        failures = told_reads spoken service.most_reads head why fails failed quiet;
      })

  -- what came of writing a primary's answer to what was read
  answered_live : (answer : AnswerParts) → Answers answer → (r : Result Served EngineFault)
      → WritesBy (written_on spoken) (WroteAllLive turn start answer now (written_on spoken))
      (WroteLive turn start answer now spoken.written_old spoken.written_new)
      (λ why. WroteRefused turn start answer why now spoken.written_old spoken.written_new) r
      → ServedLive turn service spoken start
      r now
  answered_live answer has (Ok served) (all, quiet) = (
    (answer, all.text, has, all.sends, all.wrote_it),
    takes_all turn start now answer all.text served
        (opened_at has.head service.contest.now start.primary.node service.framing service.back
        answer has.answers) all.sends all.only_long all.each_long,
  )
  answered_live answer has (Err fault.Write) (part, failed) = (answer, has, part)
  answered_live answer has (Err fault.Memory) (part, quiet) = inr (answer, has, part)
  answered_live answer has (Err (fault.Commit why)) (refused, quiet) = (answer, has, refused)
  answered_live answer has (Err fault.Read) (none, quiet) = absurd none
  answered_live answer has (Err fault.TooManyReads) (none, quiet) = absurd none
  answered_live answer has (Err (fault.Follow why)) (none, quiet) = absurd none

  pub was_live : (answer : AnswerParts) → Answers answer
      → RoseAtMost spoken.reads_old spoken.reads_new service.most_reads
      → spoken.failed_reads_new ≡ spoken.failed_reads_old → (r : Result Served EngineFault)
      → WritesBy (written_on spoken) (WroteAllLive turn start answer now (written_on spoken))
      (WroteLive turn start answer now spoken.written_old spoken.written_new)
      (λ why. WroteRefused turn start answer why now spoken.written_old spoken.written_new) r
      → ServesLive turn service spoken start r now
  was_live answer has reads unfailed r w = record {
    came = answered_live answer has r w;
    reads = reads;
    failures = told_writes spoken _ _ _ unfailed r w;
  }
