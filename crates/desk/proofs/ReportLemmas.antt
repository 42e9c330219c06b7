-- A report depends on calendars by whether they hold on the day alone.
use Rattle.std.proofs.Common.{◌≡◌, ◌∙◌, ◌++◌, ℕ, ℤ, List, [], Option, append_assoc, ap}
use Rattle.std.proofs.Math.Path.{fun_ext}
use Rattle.std.specs.List.{flat_map}
use Rattle.jiff_core.specs.declared.civil.date.Date.{Date}
use Rattle.sched.specs.declared.calendar.Calendar.{Calendar}
use Rattle.sched.specs.Segments.{segments_of}
use Rattle.building.specs.declared.named_schedule.NamedSchedule.{NamedSchedule}
use Rattle.desk_settling.specs.Calendars.{with_items}
use Rattle.sched.specs.Calendar.{hold_on}
use Rattle.desk_settling.proofs.ValueLemmas.{schedule_value-same}
use Rattle.std.proofs.lemmas.List.{append-nil}
use Rattle.points.specs.Texts.{Text}
use Rattle.desk.specs.ReportLines.{schedule_line, schedule_lines, segment_line}

schedule_lines-same : (day : Date) (cs ds : List Calendar) (s : NamedSchedule) → hold_on day cs ≡ hold_on day ds
    → schedule_lines cs day s ≡ schedule_lines ds day s
unfolding schedule_lines
schedule_lines-same day cs ds s same =
    ap (λ (value : ℕ → Option ℤ). schedule_line day s ++ flat_map segment_line (segments_of value))
    (fun_ext (λ (time : ℕ). schedule_value-same day time cs ds s.schedule same))

pub all_lines-same : (day : Date) (cs ds : List Calendar) (schedules : List NamedSchedule) → hold_on day cs ≡ hold_on day ds
    → flat_map (schedule_lines cs day) schedules ≡ flat_map (schedule_lines ds day) schedules
all_lines-same day cs ds schedules same =
    ap (λ (lines : NamedSchedule → List ℕ). flat_map lines schedules)
    (fun_ext (λ (s : NamedSchedule). schedule_lines-same day cs ds s same))

-- nothing is imported beside what is
pub with_items-none : (imported : Text → List Text) → with_items imported [] ≡ imported
with_items-none imported = fun_ext (λ calendar. append-nil (imported calendar))

-- three parts, one written after the other
pub joined-parts : (first second third old mid new : List ℕ) → old ≡ first → mid ≡ old ++ second → new ≡ mid ++ third
    → new ≡ first ++ (second ++ third)
joined-parts first second third old mid new a b c =
    c ∙ (ap (λ text. text ++ third) (b ∙ ap (λ text. text ++ second) a) ∙ append_assoc first second third)
