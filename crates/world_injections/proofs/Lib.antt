pub mod InjectionLaws
pub mod SizeLaws
