-- The codes and the report lines of the statuses.
use Rattle.std.specs.Prelude.{ℕ, List, [], ◌++◌, codes, decimal}
use Rattle.outside_io.specs.Lines.{with_line_feed}
use Rattle.report_lines.specs.Numbers.{at_count}
use Rattle.report_lines.specs.Units.{unit_name}
use Rattle.report_lines.specs.Endings.{halt_line, check_line, limit_line, need_cards_line, need_keys_line, jam_line}
use Rattle.sps_listing.specs.Texts.{short_refusal_line}
use Rattle.ibm1620_cli.specs.declared.status.Status.{Status}
use Rattle.ibm1620_cli.specs.declared.status.Status.TheVariants.{Halted, Assembled, Generated, Placed, Refused, Usage, CheckStop, Limit, NeedCards, NeedKeys, HostFault, OutOfMemory, Jam, BadScript, TooLong, SessionEnded, BadCommand}

abbrev pub exit_code_of : Status → ℕ
exit_code_of (Halted at steps) = 0
exit_code_of (Assembled statements digits cards) = 0
exit_code_of (Generated statements) = 0
exit_code_of (Placed sectors cards) = 0
exit_code_of (Refused statement rule) = 1
exit_code_of Usage = 2
exit_code_of (CheckStop kind at steps) = 3
exit_code_of (Limit steps) = 4
exit_code_of (NeedCards at steps) = 5
exit_code_of (NeedKeys at steps) = 6
exit_code_of HostFault = 7
exit_code_of OutOfMemory = 8
exit_code_of (Jam u line) = 9
exit_code_of (BadScript line) = 10
exit_code_of (TooLong u) = 11
exit_code_of SessionEnded = 12
exit_code_of (BadCommand line) = 13

-- the line of a source that was assembled: its statements, the addresses that it declares, and the cards of its deck
abbrev pub assembled_line : ℕ → ℕ → ℕ → List ℕ
assembled_line statements digits cards =
    codes "ASSEMBLED STATEMENTS " ++ decimal statements ++ codes " DIGITS " ++ decimal digits ++ codes " CARDS "
    ++ at_count cards

-- the line of an image that was written to the disk pack: its sectors, and the cards of its deck
abbrev pub placed_line : ℕ → ℕ → List ℕ
placed_line sectors cards =
    codes "PLACED SECTORS " ++ decimal sectors ++ codes " CARDS " ++ at_count cards

-- THE REPORT LINE of a status; for a refusal it is without the details of the statement
abbrev pub report_line : Status → List ℕ
report_line (Halted at steps) = halt_line at steps
report_line (Assembled statements digits cards) = assembled_line statements digits cards
report_line (Generated statements) = codes "GENERATED STATEMENTS " ++ at_count statements
report_line (Placed sectors cards) = placed_line sectors cards
report_line (Refused statement rule) = short_refusal_line statement rule
report_line Usage = with_line_feed (codes "USAGE")
report_line (CheckStop kind at steps) = check_line kind at steps
report_line (Limit steps) = limit_line steps
report_line (NeedCards at steps) = need_cards_line at steps
report_line (NeedKeys at steps) = need_keys_line at steps
report_line HostFault = []
report_line OutOfMemory = []
report_line (Jam u line) = jam_line u line
report_line (BadScript line) = codes "BAD SCRIPT " ++ at_count line
report_line (TooLong u) = codes "TOO LONG " ++ with_line_feed (unit_name u)
report_line SessionEnded = with_line_feed (codes "SESSION ENDED")
report_line (BadCommand line) = codes "BAD COMMAND " ++ at_count line
