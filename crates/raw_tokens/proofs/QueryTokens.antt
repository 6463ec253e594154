pub mod Spell
