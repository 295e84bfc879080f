pub mod Numbers
pub mod Units
pub mod Endings
-- what the crates above cite
pub use Rattle.report_lines.specs.Numbers.{at_count, at_steps, digits_to_width, with_blank}
pub use Rattle.report_lines.specs.Units.{unit_name}
pub use Rattle.report_lines.specs.Endings.{check_line, halt_line, jam_line, limit_line, need_cards_line, need_keys_line}
